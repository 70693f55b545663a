-- The text of a report.
use Rattle.std.specs.Prelude.{ℕ, ◌==◌, if◌then◌else◌, List, [], ◌∷◌, ◌++◌, codes, decimal}
use Rattle.std.specs.List.{flat_map}
use Rattle.ab_num.specs.declared.party.Party.{Party}
use Rattle.ab_text.specs.declared.line.OpenCause.{OpenCause}
use Rattle.ab_text.specs.declared.line.OpenCause.TheVariants.{Bad, Kind, Tag}
use Rattle.ab_text.specs.declared.line.Line.{Line}
use Rattle.ab_text.specs.declared.line.Line.TheVariants.{Refused, Cert, Init, Invoked, Commit, Spent}
use Rattle.ab_text.specs.declared.line.Breach.{Breach}
use Rattle.ab_text.specs.declared.line.Breach.TheVariants.{Faulty, Forged, Collision}
use Rattle.ab_text.specs.declared.line.Premise.{Premise}
use Rattle.ab_text.specs.declared.line.Premise.TheVariants.{Held, Broken}
use Rattle.ab_text.specs.Cores.{party_text}

-- one text after another, grouped to the right as a format is
infixr 20 ◌then◌
abbrev pub ◌then◌ : List ℕ → List ℕ → List ℕ
a then b = a ++ b

-- client, dot, stamp
abbrev pub entry_text : ℕ × ℕ → List ℕ
entry_text e = codes "c" then decimal e.0 then codes "." then decimal e.1

abbrev pub next_entry_text : ℕ × ℕ → List ℕ
next_entry_text e = codes "," then entry_text e

-- `-` for none, else joined by commas
abbrev pub entries_text : List (ℕ × ℕ) → List ℕ
entries_text [] = codes "-"
entries_text (e ∷ es) = entry_text e ++ flat_map next_entry_text es

-- of a list that has forgotten its first `start` entries: their number, then those that it has
abbrev pub list_text : ℕ → List (ℕ × ℕ) → List ℕ
list_text start entries = if start == 0 then entries_text entries else decimal start then codes ":" then entries_text entries

abbrev pub cause_text : OpenCause → List ℕ
cause_text Bad = codes "bad"
cause_text Kind = codes "kind"
cause_text Tag = codes "tag"

abbrev pub refused_line : ℕ → Party → OpenCause → List ℕ
refused_line e p cause = codes "refused " then decimal e then codes " " then party_text p then codes " " then cause_text cause then codes "\n"

abbrev pub cert_line : ℕ → Party → ℕ → ℕ → List (ℕ × ℕ) → List ℕ
cert_line e p i start entries = codes "cert " then decimal e then codes " " then party_text p then codes " " then decimal i then codes " " then list_text start entries then codes "\n"

abbrev pub init_line : ℕ → ℕ → ℕ → ℕ → List (ℕ × ℕ) → List ℕ
init_line e r i start entries = codes "init " then decimal e then codes " r" then decimal r then codes " " then decimal i then codes " " then list_text start entries then codes "\n"

abbrev pub invoked_line : ℕ → ℕ → ℕ → ℕ → List ℕ
invoked_line e c i stamp = codes "invoked " then decimal e then codes " c" then decimal c then codes " " then decimal i then codes " " then decimal stamp then codes "\n"

-- the line of a commit up to its reply
abbrev pub commit_front : ℕ → ℕ → ℕ → ℕ → ℕ → List ℕ
commit_front e c i stamp n = codes "commit " then decimal e then codes " c" then decimal c then codes " " then decimal i then codes " " then decimal stamp then codes " " then decimal n then codes " "

-- the reply's bytes stand as they are
abbrev pub commit_line : ℕ → ℕ → ℕ → ℕ → ℕ → List ℕ → List ℕ
commit_line e c i stamp n reply = commit_front e c i stamp n ++ (reply ++ codes "\n")

abbrev pub spent_line : ℕ → ℕ → List ℕ
spent_line e r = codes "spent " then decimal e then codes " r" then decimal r then codes "\n"

abbrev pub line_text : Line → List ℕ
line_text (Refused e p cause) = refused_line e p cause
line_text (Cert e p i start entries) = cert_line e p i start entries
line_text (Init e r i start entries) = init_line e r i start entries
line_text (Invoked e c i stamp) = invoked_line e c i stamp
line_text (Commit e c i stamp n reply) = commit_line e c i stamp n reply.items
line_text (Spent e r) = spent_line e r

abbrev pub log_line : ℕ → ℕ → ℕ → List (ℕ × ℕ) → List ℕ
log_line r i start entries = codes "log r" then decimal r then codes " " then decimal i then codes " " then list_text start entries then codes "\n"

-- the present instance and log of a replica, of which it has forgotten the first `start` entries
pub record Log : Type 0 where
  pub replica : ℕ
  pub instance : ℕ
  pub start : ℕ
  pub entries : List (ℕ × ℕ)

abbrev pub log_text : Log → List ℕ
log_text log = log_line log.replica log.instance log.start log.entries

abbrev pub breach_text : Breach → List ℕ
breach_text Faulty = codes "faulty"
breach_text Forged = codes "forged"
breach_text Collision = codes "collision"

abbrev pub broken_line : ℕ → Breach → Party → List ℕ
broken_line e breach p = codes "premise broken " then decimal e then codes " " then breach_text breach then codes " " then party_text p then codes "\n"

abbrev pub premise_text : Premise → List ℕ
premise_text Held = codes "premise held\n"
premise_text (Broken e breach p) = broken_line e breach p

abbrev pub end_text : ℕ → ℕ → List ℕ
end_text events packets = codes "end " then decimal events then codes " " then decimal packets then codes "\n"

-- the lines, the logs of the correct replicas, the premise and the numbers
abbrev pub report_text : List Line → List Log → Premise → ℕ → ℕ → List ℕ
report_text lines logs premise events packets = flat_map line_text lines ++ (flat_map log_text logs ++ (premise_text premise ++ end_text events packets))
