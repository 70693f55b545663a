-- No line of a schedule has a line feed, so its text has these lines.
use Rattle.std.proofs.Common.{◌≡◌, ℕ, suc, ◌^◌, ◌<◌, ◌≤◌, List, [], ◌∷◌, ◌++◌, Bool, true, false, Option, None, Some, All, IfSome, codes, decimal, eqb, refl, sym, ap, ◌∙◌, arith, inl, inr, if◌then◌else◌}
use Rattle.std.specs.Prelude.{not}
use Rattle.std.specs.List.{AllByRecursion, list_all}
use Rattle.std.proofs.lemmas.Bool.{false_from_ne_true, and_parts}
use Rattle.std.proofs.lemmas.Bool.Decides.{Decides-eqb}
use Rattle.hex.specs.Hex.{encode_lower}
use Rattle.ab_num.specs.declared.party.Party.{Party}
use Rattle.ab_num.specs.declared.party.Party.TheVariants.{Replica, Client}
use Rattle.ab_num.specs.declared.plan.Plan.{Plan}
use Rattle.ab_num.specs.declared.plan.Plan.TheVariants.{AZyzzyva, Aliph, Quorum, ZLight, Chain, Backup, ZCert}
use Rattle.ab_num.specs.declared.plan.ServiceName.{ServiceName}
use Rattle.ab_num.specs.declared.plan.ServiceName.TheVariants.{Echo, Kv}
use Rattle.ab_num.specs.declared.plan.Height.TheVariants.{Five, Ten}
use Rattle.ab_num.specs.declared.plan.Scheme.{Scheme}
use Rattle.ab_num.specs.declared.plan.Scheme.TheVariants.{Lms, Hss}
use Rattle.ab_text.specs.declared.event.Core.{Core}
use Rattle.ab_text.specs.declared.event.Event.{Event}
use Rattle.ab_text.specs.declared.event.Event.TheVariants.{Invoke, Deliver, Timeout, Inject}
use Rattle.ab_text.specs.declared.version.Version.{Version}
use Rattle.ab_text.specs.declared.version.Version.TheVariants.{One, Two, Three, Four}
use Rattle.ab_text.specs.Cores.{Lacks, party_text, IsParty, twin_text, core_text, IsTwin, IsCore}
use Rattle.ab_text.specs.EventLines.{IsEvent, IsCommand, delivery_text, event_line}
use Rattle.ab_text.specs.Heads.{Script, abstract_line, plan_line, service_line, lms_line, seed_line, version_of}
use Rattle.ab_text.specs.Lines.{lines_of, onto_first}
use Rattle.ab_text.specs.Schedules.{IsInside, faulty_line}
use Rattle.ab_text.specs.Spelling.{AreFaulty, IsSchedule, IsSeed, IsSpelled, event_lines, faulty_lines, head_lines, later_lines, schedule_lines}
use Rattle.ab_text.proofs.CoreLemmas.{Lacks-party}
use Rattle.ab_text.proofs.HeadLemmas.{goes_least, most_few}
use Rattle.ab_text.proofs.HexLemmas.{encoded_lower}
use Rattle.ab_text.proofs.PartLemmas.{Lacks-append, Lacks-cons, Lacks-decimal}
use Rattle.ab_text.specs.Texts.{text_of, schedule_text}

abbrev pub HasNoFeed : List ℕ → Type 0
HasNoFeed l = Lacks 10 l

abbrev pub HaveNoFeed : List (List ℕ) → Type 0
HaveNoFeed ls = AllByRecursion HasNoFeed ls

first_line : (l rest : List ℕ) → HasNoFeed l → lines_of ((l ++ 10 ∷ []) ++ rest) ≡ l ∷ lines_of rest
first_line [] rest none = refl
first_line (b ∷ l) rest none =
    let other : eqb b 10 ≡ false = false_from_ne_true (eqb b 10) (λ t. none 0 0 (omega arith) ((Decides-eqb b 10).0 t)) in
    ap (λ t. if t then [] ∷ lines_of ((l ++ 10 ∷ []) ++ rest) else onto_first b (lines_of ((l ++ 10 ∷ []) ++ rest))) other
    ∙ ap (onto_first b) (first_line l rest (λ k d lt. none (suc k) d (omega arith)))

pub lines_of-text_of : (ls : List (List ℕ)) → HaveNoFeed ls → lines_of (text_of ls) ≡ ls
lines_of-text_of [] none = refl
lines_of-text_of (l ∷ ls) none = first_line l (text_of ls) none.0 ∙ ap (λ t. l ∷ t) (lines_of-text_of ls none.1)

pub both : (a b : List (List ℕ)) → HaveNoFeed a → HaveNoFeed b → HaveNoFeed (a ++ b)
both [] b first second = second
both (x ∷ a) b first second = (first.0, both a b first.1 second)

-- the test of a literal
abbrev pub has_no_feed : List ℕ → Bool
has_no_feed l = list_all (λ b. not (eqb b 10)) l

pub tested : (l : List ℕ) → has_no_feed l ≡ true → HasNoFeed l
tested [] h = λ k d lt. absurd (omega arith)
tested (b ∷ l) h =
    let parts = and_parts (not (eqb b 10)) (has_no_feed l) h in
    Lacks-cons 10 b l (λ e. let t : eqb b 10 ≡ true = (Decides-eqb b 10).1 e in (let no_feed : not (eqb b 10) ≡ true = parts.0 in (let bad : false ≡ true = sym (ap not t) ∙ no_feed in cc))) (tested l parts.1)

-- ---- events

pub no_feed_in_digits : (bytes : List ℕ) → All (λ b. b < 256) bytes → HasNoFeed (encode_lower bytes)
no_feed_in_digits bytes small k d lt e = elim (encoded_lower bytes small k d lt) [
  | inl low ↦ (let a = low.0 in omega (arith, a, e))
  | inr high ↦ (let a = high.0 in omega (arith, a, e))
]

no_feed_in_command : (command : List ℕ) → IsCommand command → HasNoFeed command
no_feed_in_command command good k d lt e = let low = (good.printable k d lt).0 in omega (arith, low, e)

no_feed_in_twin : (t : Option ℕ) → IfSome t IsTwin → HasNoFeed (twin_text t)
no_feed_in_twin None good = λ k d lt. absurd (omega arith)
no_feed_in_twin (Some t) good = let few = good.few in Lacks-cons 10 46 (decimal t) (λ e. omega (arith, e)) (Lacks-decimal 10 t (omega arith) (omega (arith, few)))

no_feed_in_core : (core : Core) → IsCore core → HasNoFeed (core_text core)
no_feed_in_core core good = Lacks-append 10 (party_text core.party) (twin_text core.twin) (Lacks-party 10 core.party (omega arith) good.party) (no_feed_in_twin core.twin good.twin)

-- behind a space
spaced : (text : List ℕ) → HasNoFeed text → HasNoFeed (32 ∷ text)
spaced text none = Lacks-cons 10 32 text (λ e. omega (arith, e)) none

no_feed_in_delivery : (packet : ℕ) (core : Option Core) → packet < 2 ^ 64 → IfSome core IsCore → HasNoFeed (delivery_text packet core)
no_feed_in_delivery packet None small good = Lacks-decimal 10 packet (omega arith) small
no_feed_in_delivery packet (Some core) small good =
    Lacks-append 10 (decimal packet) (32 ∷ core_text core) (Lacks-decimal 10 packet (omega arith) small) (spaced (core_text core) (no_feed_in_core core good))

no_feed_in_event : (e : Event) → IsEvent e → HasNoFeed (event_line e)
no_feed_in_event (Invoke core command) good =
    Lacks-append 10 (codes "invoke ") (core_text core ++ 32 ∷ command.items) (tested (codes "invoke ") refl)
    (Lacks-append 10 (core_text core) (32 ∷ command.items) (no_feed_in_core core good.0) (spaced command.items (no_feed_in_command command.items good.2)))
no_feed_in_event (Deliver packet core) good =
    Lacks-append 10 (codes "deliver ") (delivery_text packet core) (tested (codes "deliver ") refl) (no_feed_in_delivery packet core good.0 good.1)
no_feed_in_event (Timeout core) good = Lacks-append 10 (codes "timeout ") (core_text core) (tested (codes "timeout ") refl) (no_feed_in_core core good)
no_feed_in_event (Inject core bytes) good =
    Lacks-append 10 (codes "inject ") (core_text core ++ 32 ∷ encode_lower bytes) (tested (codes "inject ") refl)
    (Lacks-append 10 (core_text core) (32 ∷ encode_lower bytes) (no_feed_in_core core good.0) (spaced (encode_lower bytes) (no_feed_in_digits bytes good.1.small)))

no_feed_in_events : (es : List Event) → AllByRecursion IsEvent es → HaveNoFeed (event_lines es)
no_feed_in_events [] good = (tested (codes "end") refl, tt)
no_feed_in_events (e ∷ es) good = (no_feed_in_event e good.0, no_feed_in_events es good.1)

-- ---- faulty parties

party_inside : (f clients : ℕ) (p : Party) → f ≤ 2 → clients ≤ 16 → IsInside f clients p → IsParty p
party_inside f clients (Replica r) few small inside = omega arith
party_inside f clients (Client c) few small inside = omega arith

no_feed_in_party : (x : Party × ℕ) → IsParty x.0 → x.1 ≤ 4 → HasNoFeed (faulty_line x)
no_feed_in_party x good few =
    Lacks-append 10 (codes "faulty ") (party_text x.0 ++ 32 ∷ decimal x.1) (tested (codes "faulty ") refl)
    (Lacks-append 10 (party_text x.0) (32 ∷ decimal x.1) (Lacks-party 10 x.0 (omega arith) good) (spaced (decimal x.1) (Lacks-decimal 10 x.1 (omega arith) (omega (arith, few)))))

no_feed_in_faulty : (f clients : ℕ) (done faulty : List (Party × ℕ)) (events : List Event) → f ≤ 2 → clients ≤ 16 → AreFaulty f clients done faulty → AllByRecursion IsEvent events
    → HaveNoFeed (faulty_lines faulty events)
no_feed_in_faulty f clients done [] events few small next good = (tested (codes "run") refl, no_feed_in_events events good)
no_feed_in_faulty f clients done (x ∷ faulty) events few small next good =
    (no_feed_in_party x (party_inside f clients x.0 few small next.0.inside) next.0.few, no_feed_in_faulty f clients (done ++ x ∷ []) faulty events few small next.1 good)

-- ---- the head

no_feed_in_version : (w : Version) → HasNoFeed (abstract_line w)
no_feed_in_version One = tested (codes "abstract 1") refl
no_feed_in_version Two = tested (codes "abstract 2") refl
no_feed_in_version Three = tested (codes "abstract 3") refl
no_feed_in_version Four = tested (codes "abstract 4") refl

pub no_feed_in_plan : (p : Plan) → HasNoFeed (plan_line p)
no_feed_in_plan AZyzzyva = tested (codes "plan azyzzyva") refl
no_feed_in_plan Aliph = tested (codes "plan aliph") refl
no_feed_in_plan Quorum = tested (codes "plan quorum") refl
no_feed_in_plan ZLight = tested (codes "plan zlight") refl
no_feed_in_plan Chain = tested (codes "plan chain") refl
no_feed_in_plan Backup = tested (codes "plan backup") refl
no_feed_in_plan ZCert = tested (codes "plan zcert") refl

pub no_feed_in_service : (v : ServiceName) → HasNoFeed (service_line v)
no_feed_in_service Echo = tested (codes "service echo") refl
no_feed_in_service Kv = tested (codes "service kv") refl

pub no_feed_in_scheme : (h : Scheme) → HasNoFeed (lms_line h)
no_feed_in_scheme (Lms Five) = tested (codes "lms 5") refl
no_feed_in_scheme (Lms Ten) = tested (codes "lms 10") refl
no_feed_in_scheme Hss = tested (codes "lms 20") refl

-- a word and a small number
numbered : (word : List ℕ) (n : ℕ) → has_no_feed word ≡ true → n ≤ 128 → HasNoFeed (word ++ decimal n)
numbered word n none few = Lacks-append 10 word (decimal n) (tested word none) (Lacks-decimal 10 n (omega arith) (omega (arith, few)))

no_feed_in_seed : (seed : List ℕ) → IsSeed seed → HasNoFeed (seed_line seed)
no_feed_in_seed seed good = Lacks-append 10 (codes "seed ") (encode_lower seed) (tested (codes "seed ") refl) (no_feed_in_digits seed good.small)

no_feed_in_later : (w : Version) (every : ℕ) (seed : List ℕ) → every ≤ 128 → IsSeed seed → HaveNoFeed (later_lines w every seed)
no_feed_in_later One every seed dense good = tt
no_feed_in_later Two every seed dense good = tt
no_feed_in_later Three every seed dense good = (numbered (codes "checkpoint ") every refl dense, tt)
no_feed_in_later Four every seed dense good = (numbered (codes "checkpoint ") every refl dense, (no_feed_in_seed seed good, tt))

no_feed_in_head : (w : Version) (s : Script) → IsSchedule s → HaveNoFeed (head_lines w s)
no_feed_in_head w s schedule =
    let few = schedule.bounds.few_faulty in
    let count = schedule.bounds.few_clients in
    let dense = schedule.dense in
    let most = most_few s.plan in (
      no_feed_in_version w,
      (
        numbered (codes "f ") s.f refl (omega (arith, few)),
        (
          no_feed_in_plan s.plan,
          (
            numbered (codes "clients ") s.clients refl (omega (arith, count)),
            (no_feed_in_service s.service, (no_feed_in_scheme s.lms, no_feed_in_later w s.every s.seed (omega (arith, dense, most)) schedule.seed)),
          ),
        ),
      ),
    )

-- ---- the whole text

pub text_spells : (s : Script) → IsSchedule s → IsSpelled (schedule_text s) s
text_spells s good =
    let body = no_feed_in_faulty s.f s.clients [] s.faulty s.events good.bounds.few_faulty good.bounds.few_clients good.faulty good.events in
    let w = version_of s in
    let goes = goes_least s in
    record {
      schedule = good;
      version = w;
      allows = goes.0;
      omits = goes.1;
      lines = lines_of-text_of (schedule_lines w s) (both (head_lines w s) (faulty_lines s.faulty s.events) (no_feed_in_head w s good) body);
    }
