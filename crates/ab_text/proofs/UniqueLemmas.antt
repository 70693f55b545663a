-- A line spells one event, and a text gives one result.
use Rattle.std.proofs.Common.{◌≡◌, ℕ, ◌+◌, ◌^◌, ◌<◌, List, [], ◌∷◌, ◌++◌, Option, None, Some, IfSome, Result, Ok, Err, get_or, drop, ◌≤◌, codes, decimal, refl, sym, ap, ◌∙◌, subst, arith, inl, inr, append-nil}
use Rattle.std.specs.Result.{result_unwrap_or}
use Rattle.std.proofs.lemmas.Fmt.{decimal_injective}
use Rattle.hex.specs.Hex.{encode_lower}
use Rattle.ab_num.specs.declared.party.Party.{Party}
use Rattle.ab_num.specs.declared.party.Party.TheVariants.{Replica, Client}
use Rattle.ab_text.specs.declared.event.Core.{Core}
use Rattle.ab_text.specs.declared.event.Event.{Event}
use Rattle.ab_text.specs.declared.event.Event.TheVariants.{Invoke, Deliver, Timeout, Inject}
use Rattle.ab_text.specs.declared.fault.TextFault.{TextFault}
use Rattle.ab_text.specs.Cores.{Lacks, party_text, IsParty, twin_text, core_text, IsTwin, IsCore}
use Rattle.ab_text.specs.EventLines.{event_line, delivery_text, IsEvent, IsInjected}
use Rattle.ab_text.specs.Heads.{Front, Script, head_at}
use Rattle.ab_text.specs.Schedules.{ReadsEvents, ReadsFaulty, Continues, Ends, IsInside, faulty_line, with_event, with_faulty}
use Rattle.ab_text.proofs.PartLemmas.{same_parts, no_split, Lacks-decimal}
use Rattle.ab_text.proofs.CoreLemmas.{Lacks-party, Lacks-core}
use Rattle.ab_text.proofs.HeadLemmas.{head_is}
use Rattle.ab_text.proofs.HexLemmas.{decodes}

same_party : (p q : Party) → IsParty p → IsParty q → party_text p ≡ party_text q → p ≡ q
same_party (Replica r) (Replica s) good fine is = (let said : decimal r ≡ decimal s = cc in ap Replica (decimal_injective r s (omega arith) (omega arith) said))
same_party (Client c) (Client d) good fine is = (let said : decimal c ≡ decimal d = cc in ap Client (decimal_injective c d (omega arith) (omega arith) said))
same_party (Replica r) (Client d) good fine is = let first : 114 ≡ 99 = ap (λ xs. get_or xs 0 0) is in absurd (omega (arith, first))
same_party (Client c) (Replica s) good fine is = let first : 99 ≡ 114 = ap (λ xs. get_or xs 0 0) is in absurd (omega (arith, first))

-- a text that lacks the separator has no parts
unsplit : (s : ℕ) (t a b : List ℕ) → Lacks s t → t ≡ a ++ s ∷ b → ⊥
unsplit s t a b lacks is = no_split s t a b is (λ k lt e. lacks k 0 lt e)

same_twin : (p q : Party) (t u : Option ℕ) → IsParty p → IsParty q → IfSome t IsTwin → IfSome u IsTwin → party_text p ++ twin_text t ≡ party_text q ++ twin_text u → (p ≡ q) × (t ≡ u)
same_twin p q None None good fine one other is = (same_party p q good fine (sym (append-nil (party_text p)) ∙ is ∙ append-nil (party_text q)), refl)
same_twin p q None (Some u) good fine one other is = absurd (unsplit 46 (party_text p) (party_text q) (decimal u) (Lacks-party 46 p (omega arith) good) (sym (append-nil (party_text p)) ∙ is))
same_twin p q (Some t) None good fine one other is = absurd (unsplit 46 (party_text q) (party_text p) (decimal t) (Lacks-party 46 q (omega arith) fine) (sym (is ∙ append-nil (party_text q))))
same_twin p q (Some t) (Some u) good fine one other is =
    let parts = same_parts 46 (party_text p) (decimal t) (party_text q) (decimal u) (Lacks-party 46 p (omega arith) good) (Lacks-party 46 q (omega arith) fine) is in
    let low = one.few in
    let high = other.few in
    (same_party p q good fine parts.0, ap Some (decimal_injective t u (omega (arith, low)) (omega (arith, high)) parts.1))

same_core : (c d : Core) → IsCore c → IsCore d → core_text c ≡ core_text d → c ≡ d
same_core c d good fine is =
    let both = same_twin c.party d.party c.twin d.twin good.party fine.party good.twin fine.twin is in
    λ j. record { party = both.0 j; twin = both.1 j }

same_delivery : (k m : ℕ) (c d : Option Core) → k < 2 ^ 64 → m < 2 ^ 64 → IfSome c IsCore → IfSome d IsCore → delivery_text k c ≡ delivery_text m d → (k ≡ m) × (c ≡ d)
same_delivery k m None None low high good fine is = (decimal_injective k m low high is, refl)
same_delivery k m None (Some d) low high good fine is = absurd (unsplit 32 (decimal k) (decimal m) (core_text d) (Lacks-decimal 32 k (omega arith) low) is)
same_delivery k m (Some c) None low high good fine is = absurd (unsplit 32 (decimal m) (decimal k) (core_text c) (Lacks-decimal 32 m (omega arith) high) (sym is))
same_delivery k m (Some c) (Some d) low high good fine is =
    let parts = same_parts 32 (decimal k) (core_text c) (decimal m) (core_text d) (Lacks-decimal 32 k (omega arith) low) (Lacks-decimal 32 m (omega arith) high) is in
    (decimal_injective k m low high parts.0, ap Some (same_core c d good fine parts.1))

same_injected : (a b : List ℕ) → IsInjected a → IsInjected b → encode_lower a ≡ encode_lower b → a ≡ b
same_injected a b good fine is =
    ap (λ (r : Result (List ℕ) _). result_unwrap_or r []) (sym (decodes (encode_lower a) a good refl) ∙ decodes (encode_lower a) b fine is)

-- the third bytes differ
pub same_event : (e f : Event) → IsEvent e → IsEvent f → event_line e ≡ event_line f → e ≡ f
same_event (Invoke c command) (Invoke d other) good fine is =
    let said : core_text c ++ 32 ∷ command.items ≡ core_text d ++ 32 ∷ other.items = ap (drop 7) is in
    let parts = same_parts 32 (core_text c) command.items (core_text d) other.items (Lacks-core c good.0) (Lacks-core d fine.0) said in
    λ j. Invoke (same_core c d good.0 fine.0 parts.0 j) (record { items = parts.1 j })
same_event (Deliver k c) (Deliver m d) good fine is =
    let both = same_delivery k m c d good.0 fine.0 good.1 fine.1 (ap (drop 8) is) in
    λ j. Deliver (both.0 j) (both.1 j)
same_event (Timeout c) (Timeout d) good fine is = ap Timeout (same_core c d good fine (ap (drop 8) is))
same_event (Inject c bytes) (Inject d other) good fine is =
    let said : core_text c ++ 32 ∷ encode_lower bytes ≡ core_text d ++ 32 ∷ encode_lower other = ap (drop 7) is in
    let parts = same_parts 32 (core_text c) (encode_lower bytes) (core_text d) (encode_lower other) (Lacks-core c good.0) (Lacks-core d fine.0) said in
    λ j. Inject (same_core c d good.0 fine.0 parts.0 j) (same_injected bytes other good.1 fine.1 parts.1 j)
same_event (Invoke c x) (Deliver m d) good fine is = let e : 118 ≡ 108 = ap (λ xs. get_or xs 2 0) is in absurd (omega (arith, e))
same_event (Invoke c x) (Timeout d) good fine is = let e : 118 ≡ 109 = ap (λ xs. get_or xs 2 0) is in absurd (omega (arith, e))
same_event (Invoke c x) (Inject d y) good fine is = let e : 118 ≡ 106 = ap (λ xs. get_or xs 2 0) is in absurd (omega (arith, e))
same_event (Deliver k c) (Invoke d y) good fine is = let e : 108 ≡ 118 = ap (λ xs. get_or xs 2 0) is in absurd (omega (arith, e))
same_event (Deliver k c) (Timeout d) good fine is = let e : 108 ≡ 109 = ap (λ xs. get_or xs 2 0) is in absurd (omega (arith, e))
same_event (Deliver k c) (Inject d y) good fine is = let e : 108 ≡ 106 = ap (λ xs. get_or xs 2 0) is in absurd (omega (arith, e))
same_event (Timeout c) (Invoke d y) good fine is = let e : 109 ≡ 118 = ap (λ xs. get_or xs 2 0) is in absurd (omega (arith, e))
same_event (Timeout c) (Deliver m d) good fine is = let e : 109 ≡ 108 = ap (λ xs. get_or xs 2 0) is in absurd (omega (arith, e))
same_event (Timeout c) (Inject d y) good fine is = let e : 109 ≡ 106 = ap (λ xs. get_or xs 2 0) is in absurd (omega (arith, e))
same_event (Inject c x) (Invoke d y) good fine is = let e : 106 ≡ 118 = ap (λ xs. get_or xs 2 0) is in absurd (omega (arith, e))
same_event (Inject c x) (Deliver m d) good fine is = let e : 106 ≡ 108 = ap (λ xs. get_or xs 2 0) is in absurd (omega (arith, e))
same_event (Inject c x) (Timeout d) good fine is = let e : 106 ≡ 109 = ap (λ xs. get_or xs 2 0) is in absurd (omega (arith, e))

-- `end` is shorter, and its third byte is `d`
pub no_end : (e : Event) → codes "end" ≡ event_line e → ⊥
no_end (Invoke c x) is = let e : 100 ≡ 118 = ap (λ xs. get_or xs 2 0) is in omega (arith, e)
no_end (Deliver k c) is = let e : 100 ≡ 108 = ap (λ xs. get_or xs 2 0) is in omega (arith, e)
no_end (Timeout c) is = let e : 100 ≡ 109 = ap (λ xs. get_or xs 2 0) is in omega (arith, e)
no_end (Inject c x) is = let e : 100 ≡ 106 = ap (λ xs. get_or xs 2 0) is in omega (arith, e)

-- ---- one result

abbrev Outcome : Type 0
Outcome = Result Script TextFault

ends_once : (n : ℕ) (s : Script) (ls : List (List ℕ)) (r q : Outcome) → Ends n s ls r → Ends n s ls q → r ≡ q
ends_once n s [] r q a b = a ∙ sym b
ends_once n s (l ∷ ls) r q a b = a ∙ sym b

pub events_once : (ls : List (List ℕ)) (n : ℕ) (s : Script) (r q : Outcome) → ReadsEvents n s ls r → ReadsEvents n s ls q → r ≡ q
events_once [] n s r q a b = a ∙ sym b
events_once (l ∷ ls) n s r q (inl (said, a)) (inl (told, b)) = ends_once (n + 1) s ls r q a b
events_once (l ∷ ls) n s r q (inl (said, a)) (inr (inl (e, good, told, b))) = absurd (no_end e (sym said ∙ told))
events_once (l ∷ ls) n s r q (inl (said, a)) (inr (inr (bad, b))) = absurd (bad.no_end said)
events_once (l ∷ ls) n s r q (inr (inl (e, good, said, a))) (inl (told, b)) = absurd (no_end e (sym told ∙ said))
events_once (l ∷ ls) n s r q (inr (inl (e, good, said, a))) (inr (inl (f, fine, told, b))) =
    let one : f ≡ e = same_event f e fine good (sym told ∙ said) in
    events_once ls (n + 1) (with_event s e) r q a (subst (λ x. ReadsEvents (n + 1) (with_event s x) ls q) one b)
events_once (l ∷ ls) n s r q (inr (inl (e, good, said, a))) (inr (inr (bad, b))) = absurd (bad.no_event e good said)
events_once (l ∷ ls) n s r q (inr (inr (bad, a))) (inl (told, b)) = absurd (bad.no_end told)
events_once (l ∷ ls) n s r q (inr (inr (bad, a))) (inr (inl (f, fine, told, b))) = absurd (bad.no_event f fine told)
events_once (l ∷ ls) n s r q (inr (inr (bad, a))) (inr (inr (worse, b))) = a ∙ sym b

no_run : (x : Party × ℕ) → codes "run" ≡ faulty_line x → ⊥
no_run x is = let e : 114 ≡ 102 = ap (λ xs. get_or xs 0 0) is in omega (arith, e)

-- the parties of a cluster have the numbers of parties
inside_party : (f clients : ℕ) (p : Party) → f ≤ 2 → clients ≤ 16 → IsInside f clients p → IsParty p
inside_party f clients (Replica r) few small inside = omega arith
inside_party f clients (Client c) few small inside = omega arith

same_faulty : (x y : Party × ℕ) → IsParty x.0 → IsParty y.0 → x.1 ≤ 4 → y.1 ≤ 4 → faulty_line x ≡ faulty_line y → x ≡ y
same_faulty x y good fine low high is =
    let said : party_text x.0 ++ 32 ∷ decimal x.1 ≡ party_text y.0 ++ 32 ∷ decimal y.1 = ap (drop 7) is in
    let parts = same_parts 32 (party_text x.0) (decimal x.1) (party_text y.0) (decimal y.1) (Lacks-party 32 x.0 (omega arith) good) (Lacks-party 32 y.0 (omega arith) fine) said in
    λ j. (same_party x.0 y.0 good fine parts.0 j, decimal_injective x.1 y.1 (omega (arith, low)) (omega (arith, high)) parts.1 j)

pub faulty_once : (ls : List (List ℕ)) (n : ℕ) (s : Script) (r q : Outcome) → s.f ≤ 2 → s.clients ≤ 16 → ReadsFaulty n s ls r → ReadsFaulty n s ls q → r ≡ q
faulty_once [] n s r q few small a b = a ∙ sym b
faulty_once (l ∷ ls) n s r q few small (inl (said, a)) (inl (told, b)) = events_once ls (n + 1) s r q a b
faulty_once (l ∷ ls) n s r q few small (inl (said, a)) (inr (inl (x, good, told, b))) = absurd (no_run x (sym said ∙ told))
faulty_once (l ∷ ls) n s r q few small (inl (said, a)) (inr (inr (bad, b))) = absurd (bad.no_run said)
faulty_once (l ∷ ls) n s r q few small (inr (inl (x, good, said, a))) (inl (told, b)) = absurd (no_run x (sym told ∙ said))
faulty_once (l ∷ ls) n s r q few small (inr (inl (x, good, said, a))) (inr (inl (y, fine, told, b))) =
    let one : y ≡ x = same_faulty y x (inside_party s.f s.clients y.0 few small fine.inside) (inside_party s.f s.clients x.0 few small good.inside) fine.few good.few (sym told ∙ said) in
    faulty_once ls (n + 1) (with_faulty s x) r q few small a (subst (λ v. ReadsFaulty (n + 1) (with_faulty s v) ls q) one b)
faulty_once (l ∷ ls) n s r q few small (inr (inl (x, good, said, a))) (inr (inr (bad, b))) = absurd (bad.no_faulty x good said)
faulty_once (l ∷ ls) n s r q few small (inr (inr (bad, a))) (inl (told, b)) = absurd (bad.no_run told)
faulty_once (l ∷ ls) n s r q few small (inr (inr (bad, a))) (inr (inl (y, fine, told, b))) = absurd (bad.no_faulty y fine told)
faulty_once (l ∷ ls) n s r q few small (inr (inr (bad, a))) (inr (inr (worse, b))) = a ∙ sym b

continues_once : (ls : List (List ℕ)) (o : Result Front TextFault) (r q : Outcome) → head_at ls ≡ o → Continues o r → Continues o q → r ≡ q
continues_once ls (Err e) r q is a b = a ∙ sym b
continues_once ls (Ok x) r q is a b =
    let bounds = (head_is ls x is).bounds in
    faulty_once x.rest x.next x.script r q bounds.few_faulty bounds.few_clients a b

-- lines give one result
pub lines_once : (ls : List (List ℕ)) (r q : Outcome) → Continues (head_at ls) r → Continues (head_at ls) q → r ≡ q
lines_once ls r q a b = continues_once ls (head_at ls) r q refl a b
