-- The text of an audit is read as it is spelled, and what is read was spelled.
use Rattle.std.proofs.Common.{◌≡◌, ℕ, ◌+◌, ◌*◌, List, [], ◌∷◌, ◌++◌, map, Bool, true, false, None, Some, Result, Ok, codes, decimal, length, refl, sym, ap, ◌∙◌, subst, arith, if◌then◌else◌, append-nil, append_assoc}
use Rattle.std.specs.List.{AllByRecursion, range_with_len}
use Rattle.std.specs.Option.{option_and_then}
use Rattle.std.specs.Str.{bytes_eq}
use Rattle.std.proofs.lemmas.Option.{cond_some}
use Rattle.std.proofs.lemmas.Slice.Eq.{bytes_eq-Decides}
use Rattle.hex.specs.Hex.{encode_lower}
use Rattle.ab_num.specs.declared.party.Party.TheVariants.{Replica}
use Rattle.ab_num.specs.declared.plan.Scheme.{Scheme}
use Rattle.ab_num.specs.declared.plan.Scheme.TheVariants.{Lms, Hss}
use Rattle.ab_text.specs.EventLines.{IsInjected}
use Rattle.ab_text.specs.declared.version.Version.TheVariants.{Two}
use Rattle.ab_text.specs.Heads.{stripped, spelled_in, lms_line, schemes}
use Rattle.ab_text.specs.Spelling.{Allows}
use Rattle.ab_text.proofs.HeadLemmas.{scheme_read}
use Rattle.ab_text.proofs.WordLemmas.{stripped-is}
use Rattle.ab_scheme.specs.Schemes.{public_length}
use Rattle.ab_key_text.specs.declared.fault.NodeFault.{NodeFault}
use Rattle.ab_key_text.specs.Keys.{replicas}
use Rattle.ab_key_text.specs.Lines.{◌>>=◌, found_at, line_at, number_in}
use Rattle.ab_key_text.specs.Reading.{Read, ended, publics_at}
use Rattle.ab_key_text.specs.Spelling.{public_lines}
use Rattle.ab_key_text.proofs.ReadLemmas.{ended_was, found_was, line_said, line_was, name_was, number_was, publics_were, then_was, word_was}
use Rattle.ab_key_text.proofs.SpelledLemmas.{line_read, number_read, publics_read}
use Rattle.ab_key_text.proofs.WholeLemmas.{bound}
use Rattle.ab_audit_text.specs.Spelling.{IsAuditText, audit_lines, message_line}
use Rattle.ab_audit_text.specs.Texts.{AuditText, audit_in, audit_of, message_bytes, message_in, messages_at, name_in, with_message}
use Rattle.ab_audit_text.proofs.HexLemmas.{bytes_read, bytes_were}

abbrev Lines : Type 0
Lines = List (List ℕ)

abbrev Whole : Type 0
Whole = Result AuditText NodeFault

abbrev pub from4 : ℕ → Scheme → Lines → Whole
from4 f lms ls = publics_at (public_length lms) (replicas f) [] 4 ls >>= λ (x : Read Lines). messages_at (audit_of f lms x.value []) x.next x.rest

abbrev pub from3 : ℕ → Lines → Whole
from3 f ls = line_at (spelled_in lms_line schemes) 3 ls >>= λ (x : Scheme × Lines). from4 f x.0 x.1

abbrev pub from2 : Lines → Whole
from2 ls = line_at (number_in (codes "f ") 1 2) 2 ls >>= λ (x : ℕ × Lines). from3 x.0 x.1

-- ---- what is spelled is read

message_read : (m : List ℕ) → IsInjected m → message_in (message_line m) ≡ Some m
message_read m good = ap (option_and_then message_bytes) (stripped-is (codes "message ") (message_line m) (encode_lower m) refl) ∙ bytes_read (encode_lower m) m good refl

abbrev kept : AuditText → Lines → Whole
kept t messages = Ok (audit_of t.f t.lms t.publics messages)

messages_read : (ms : Lines) (t : AuditText) (n : ℕ) → AllByRecursion IsInjected ms → messages_at t n (map message_line ms ++ codes "end" ∷ []) ≡ kept t (t.messages ++ ms)
messages_read [] t n good =
    ap (λ b. if b then ended t (n + 1) [] else found_at n [] (message_in (codes "end")) >>= λ x. messages_at (with_message t x.0) (n + 1) []) ((bytes_eq-Decides (codes "end") (codes "end")).1 refl)
    ∙ ap (kept t) (sym (append-nil t.messages))
messages_read (m ∷ ms) t n good =
    let behind : Lines = map message_line ms ++ codes "end" ∷ [] in
    let other : bytes_eq (message_line m) (codes "end") ≡ false = refl in
    ap (λ b. if b then ended t (n + 1) behind else found_at n behind (message_in (message_line m)) >>= λ x. messages_at (with_message t x.0) (n + 1) behind) other
    ∙ ap (λ o. found_at n behind o >>= λ x. messages_at (with_message t x.0) (n + 1) behind) (message_read m good.0)
    ∙ messages_read ms (with_message t m) (n + 1) good.1
    ∙ ap (kept t) (append_assoc t.messages (m ∷ []) ms)

allows_all : (h : Scheme) → Allows Two h
allows_all (Lms h) = tt
allows_all Hss = tt

pub spelled_reads : (t : AuditText) → IsAuditText t → audit_in (audit_lines t) ≡ Ok t
unfolding audit_in
spelled_reads t good =
    let low = good.some_faulty in
    let high = good.few_faulty in
    let t5 : Lines = map message_line t.messages ++ codes "end" ∷ [] in
    let t4 : Lines = public_lines 0 t.publics ++ t5 in
    let t3 : Lines = lms_line t.lms ∷ t4 in
    let t2 : Lines = (codes "f " ++ decimal t.f) ∷ t3 in
    let long = public_length t.lms in
    let one : name_in (codes "audit 1") ≡ Some tt = ap (λ b. if b then Some tt else None) ((bytes_eq-Decides (codes "audit 1") (codes "audit 1")).1 refl) in
    let publics : publics_at long (replicas t.f) [] 4 t4 ≡ Ok (record { value = t.publics; next = 4 + length t.publics; rest = t5 }) =
    ap (λ n. publics_at long (map Replica (range_with_len 0 n)) [] 4 t4) (sym good.public_of_each) ∙ publics_read long t.publics [] 0 4 t5 good.publics in
    ap (λ (r : Result (Unit {0} × Lines) NodeFault). r >>= λ x. from2 x.1) (line_read name_in 1 (codes "audit 1") t2 tt one)
    ∙ ap (λ (r : Result (ℕ × Lines) NodeFault). r >>= λ x. from3 x.0 x.1) (line_read (number_in (codes "f ") 1 2) 2 (codes "f " ++ decimal t.f) t3 t.f (number_read (codes "f ") 1 2 t.f low high (omega (arith, high))))
    ∙ ap (λ (r : Result (Scheme × Lines) NodeFault). r >>= λ x. from4 t.f x.0 x.1) (line_read (spelled_in lms_line schemes) 3 (lms_line t.lms) t4 t.lms (scheme_read Two t.lms (allows_all t.lms)))
    ∙ ap (λ (r : Result (Read Lines) NodeFault). r >>= λ x. messages_at (audit_of t.f t.lms x.value []) x.next x.rest) publics
    ∙ messages_read t.messages (audit_of t.f t.lms t.publics []) (4 + length t.publics) good.messages

-- ---- what is read was spelled

name_said : (l : List ℕ) (u : Unit {0}) → name_in l ≡ Some u → l ≡ codes "audit 1"
name_said l u h = (bytes_eq-Decides l (codes "audit 1")).0 (cond_some (bytes_eq l (codes "audit 1")) tt u h).0

message_was : (l m : List ℕ) → message_in l ≡ Some m → (l ≡ message_line m) × IsInjected m
message_was l m h =
    let behind = then_was message_bytes (stripped (codes "message ") l) m h in
    let are = bytes_were behind.0 m behind.2 in
    (word_was (codes "message ") l behind.0 behind.1 ∙ ap (λ t. codes "message " ++ t) are.0, are.1)

record AreMessagesRead (t : AuditText) (ls : Lines) (out : AuditText) (ms : Lines) : Type 0 where
  value : out ≡ audit_of t.f t.lms t.publics (t.messages ++ ms)
  form : AllByRecursion IsInjected ms
  lines : ls ≡ map message_line ms ++ codes "end" ∷ []

messages_were : (ls : Lines) (t : AuditText) (n : ℕ) (out : AuditText) → messages_at t n ls ≡ Ok out → (ms : Lines) × AreMessagesRead t ls out ms
messages_were [] t n out e = absurd (cc)
messages_were (l ∷ ls) t n out e = go (λ x. messages_were ls (with_message t x.0) (n + 1) out) (bytes_eq l (codes "end")) refl e where
  go : ((x : List ℕ × Lines) → messages_at (with_message t x.0) (n + 1) ls ≡ Ok out → (ms : Lines) × AreMessagesRead (with_message t x.0) ls out ms)
      → (b : Bool) → bytes_eq l (codes "end") ≡ b
      → (if b then ended t (n + 1) ls else found_at n ls (message_in l) >>= λ x. messages_at (with_message t x.0) (n + 1) ls) ≡ Ok out → (ms : Lines) × AreMessagesRead t (l ∷ ls) out ms
  go rest true said was =
      let last = ended_was t (n + 1) ls out was in (
        [],
        record {
          value = sym last.1 ∙ ap (λ m. audit_of t.f t.lms t.publics m) (sym (append-nil t.messages));
          form = tt;
          lines = λ j. (bytes_eq-Decides l (codes "end")).0 said j ∷ last.0 j;
        },
      )
  go rest false said was =
      let x = bound (found_at n ls (message_in l)) (λ (x : List ℕ × Lines). messages_at (with_message t x.0) (n + 1) ls) out was in
      let both = found_was n ls x.0.1 (message_in l) x.0.0 x.1 in
      let more = rest x.0 x.2 in
      let is = message_was l x.0.0 both.0 in (
        x.0.0 ∷ more.0,
        record {
          value = more.1.value ∙ ap (λ m. audit_of t.f t.lms t.publics m) (append_assoc t.messages (x.0.0 ∷ []) more.0);
          form = (is.1, more.1.form);
          lines = λ j. is.0 j ∷ more.1.lines j;
        },
      )

pub read_was : (ls : Lines) (t : AuditText) → audit_in ls ≡ Ok t → (ls ≡ audit_lines t) × IsAuditText t
unfolding audit_in
read_was ls t e =
    let a = bound (line_at name_in 1 ls) (λ (x : Unit {0} × Lines). from2 x.1) t e in
    let b = bound (line_at (number_in (codes "f ") 1 2) 2 a.0.1) (λ (x : ℕ × Lines). from3 x.0 x.1) t a.2 in
    let f = b.0.0 in
    let c = bound (line_at (spelled_in lms_line schemes) 3 b.0.1) (λ (x : Scheme × Lines). from4 f x.0 x.1) t b.2 in
    let lms = c.0.0 in
    let long = public_length lms in
    let d = bound (publics_at long (replicas f) [] 4 c.0.1) (λ (x : Read Lines). messages_at (audit_of f lms x.value []) x.next x.rest) t c.2 in
    let publics = publics_were long (3 * f + 1) 0 [] 4 c.0.1 d.0 d.1 in
    let messages = messages_were d.0.rest (audit_of f lms d.0.value []) d.0.next t d.2 in
    let one = line_said name_in (λ u. codes "audit 1") name_said 1 ls a.0.1 a.0.0 a.1 in
    let two = line_was (number_in (codes "f ") 1 2) 2 a.0.1 b.0.1 f b.1 in
    let f_is = number_was (codes "f ") 1 2 two.0 f two.2 in
    let three = line_said (spelled_in lms_line schemes) lms_line (name_was lms_line schemes) 3 b.0.1 c.0.1 lms c.1 in
    let out : AuditText = audit_of f lms publics.0 messages.0 in
    let same : out ≡ t = sym (messages.1.value ∙ ap (λ p. audit_of f lms p messages.0) publics.1.value) in
    let behind : c.0.1 ≡ public_lines 0 publics.0 ++ (map message_line messages.0 ++ codes "end" ∷ []) = publics.1.lines ∙ ap (λ r. public_lines 0 publics.0 ++ r) messages.1.lines in
    subst (λ (x : AuditText). (ls ≡ audit_lines x) × IsAuditText x) same (
      one ∙ ap (λ r. codes "audit 1" ∷ r) ((two.1 ∙ (λ j. f_is.0 j ∷ b.0.1)) ∙ ap (λ r. (codes "f " ++ decimal f) ∷ r) (three ∙ ap (λ r. lms_line lms ∷ r) behind)),
      record { some_faulty = f_is.1; few_faulty = f_is.2; public_of_each = publics.1.many; publics = publics.1.each; messages = messages.1.form },
    )
