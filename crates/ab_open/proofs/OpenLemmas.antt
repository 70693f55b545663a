-- When a message opens.
use Rattle.std.proofs.Common.{◌≡◌, ◌≢◌, ℕ, suc, ◌+◌, ◌*◌, Bool, true, false, ◌==◌, ◌&&◌, cond, IsTrue, List, [], ◌∷◌, map, Option, Result, Ok, Err, refl, sym, ap, ◌∙◌, All}
use Rattle.std.specs.List.{AllByRecursion, Contains}
use Rattle.std.proofs.lemmas.Bool.{false≢true, ltb-true}
use Rattle.std.proofs.lemmas.List.Elements.{All-from_recursion, All-contains}
use Rattle.ab_num.specs.declared.party.Party.{Party}
use Rattle.ab_num.specs.declared.party.Party.TheVariants.{Replica, Client}
use Rattle.ab_num.specs.Parties.{party_eq}
use Rattle.ab_num.proofs.PartyLemmas.{party_eq-refl}
use Rattle.ab_keys.specs.Keys.{is_party}
use Rattle.ab_form.specs.declared.bad.Bad.{Bad}
use Rattle.ab_form.specs.declared.bad.Bad.TheVariants.{BadLength}
use Rattle.ab_form.specs.Formats.{IsBytes}
use Rattle.ab_msg.specs.declared.content.Content.{Content}
use Rattle.ab_msg.specs.declared.message.Msg.{Msg}
use Rattle.ab_msg.specs.declared.message.Msg.TheVariants as msg
use Rattle.ab_msg.specs.declared.signed.Signed.{Signed}
use Rattle.ab_msg.specs.Claims.{maker_of}
use Rattle.ab_msg.specs.Contents.{spell_content}
use Rattle.ab_msg.specs.Messages.{IsMessage, spell_message}
use Rattle.ab_open.specs.Messages.{message_of}
use Rattle.ab_open.proofs.MessageLemmas.{message-law}
use Rattle.ab_check.specs.Chains.{IsPlaced}
use Rattle.ab_check.specs.Checks.{Check, Judge, Token, by_tag, checks, checked_from, checks_of, is_refused, is_right, outcome}
use Rattle.ab_open.specs.declared.fault.OpenFault.TheVariants as fault
use Rattle.ab_check.proofs.ClaimLemmas.{checked-claims}
use Rattle.ab_open.specs.Claimed.{by_maker, claims_by_maker}
use Rattle.ab_open.specs.Opening.{takes, verdict, judged, opening}
use Rattle.ab_open.specs.Trimmed.{allowed, holds_trimmed}

-- a party of a cluster has a place
pub placed : (f clients : ℕ) (me : Party) → IsTrue (is_party f clients me) → IsPlaced f me
placed f clients (Replica r) h = ltb-true r (3 * f + 1) h
placed f clients (Client c) h = tt

-- ---- what follows where it opened

pub record Facts (judge : Judge) (f clients : ℕ) (me : Party) (r : Result Msg Bad) (m : Msg) : Type 0 where
  pub read : r ≡ Ok m
  pub taken : takes f clients me m ≡ true
  pub checked : checks judge f me m ≡ Ok tt

passed : (x m : Msg) (b : Bool) (r : Result (Unit {0}) ℕ) → cond b (verdict x r) (Err fault.NotMine) ≡ Ok m → (x ≡ m) × (b ≡ true) × (r ≡ Ok tt)
passed x m true (Ok right) e = (cc, refl, refl)
passed x m true (Err place) e = absurd (cc)
passed x m false r e = absurd (cc)

judged_well : (judge : Judge) (f clients : ℕ) (me : Party) (r : Result Msg Bad) (m : Msg) → judged judge f clients me r ≡ Ok m → Facts judge f clients me r m
judged_well judge f clients me (Ok x) m e =
    let p = passed x m (takes f clients me x) (checks judge f me x) e in
    record { read = ap Ok p.0; taken = ap (takes f clients me) (sym p.0) ∙ p.1; checked = ap (checks judge f me) (sym p.0) ∙ p.2 }
judged_well judge f clients me (Err bad) m e = absurd (cc)

allowed-one : (b : Bool) (x m : Msg) → cond {A = Result Msg Bad} b (Err BadLength) (Ok x) ≡ Ok m → (x ≡ m) × (b ≡ false)
allowed-one true x m e = absurd (cc)
allowed-one false x m e = (cc, refl)

-- a message that the cluster allows is read
allowed-read : (every : ℕ) (r : Result Msg Bad) (m : Msg) → allowed every r ≡ Ok m → (r ≡ Ok m) × ((every == 0 && holds_trimmed m) ≡ false)
allowed-read every (Ok x) m e =
    let p = allowed-one (every == 0 && holds_trimmed x) x m e in
    (ap Ok p.0, ap (λ (y : Msg). every == 0 && holds_trimmed y) (sym p.0) ∙ p.1)
allowed-read every (Err bad) m e = absurd (cc)

pub opened : (judge : Judge) (f clients every : ℕ) (me : Party) (bytes : List ℕ) (m : Msg) → opening judge f clients every me bytes ≡ Ok m → Facts judge f clients me (message_of bytes) m
opened judge f clients every me bytes m e =
    let o = judged_well judge f clients me (allowed every (message_of bytes)) m e in
    record { read = (allowed-read every (message_of bytes) m o.read).0; taken = o.taken; checked = o.checked }

-- without checkpoints it holds no trimmed list
pub opened_whole : (judge : Judge) (f clients : ℕ) (me : Party) (bytes : List ℕ) (m : Msg) → opening judge f clients 0 me bytes ≡ Ok m → holds_trimmed m ≡ false
opened_whole judge f clients me bytes m e = (allowed-read 0 (message_of bytes) m (judged_well judge f clients me (allowed 0 (message_of bytes)) m e).read).1

-- ---- each check was right

not_refused : (b : Bool) (r : Result ℕ ℕ) → cond b (Err 0) (outcome r) ≡ Ok tt → (b ≡ false) × ((n : ℕ) × (r ≡ Ok n))
not_refused true r e = absurd (cc)
not_refused false (Ok n) e = (refl, (n, refl))
not_refused false (Err n) e = absurd (cc)

first_right : (b : Bool) (r : Result ℕ ℕ) (n m : ℕ) → cond b r (Err n) ≡ Ok m → (b ≡ true) × (r ≡ Ok m)
first_right true r n m e = (refl, e)
first_right false r n m e = absurd (cc)

all_right : (judge : Judge) (n m : ℕ) (ks : List Check) → checked_from judge n ks ≡ Ok m → AllByRecursion (λ k. IsTrue (is_right judge k)) ks
all_right judge n m [] e = tt
all_right judge n m (k ∷ ks) e =
    let p = first_right (is_right judge k) (checked_from judge (suc n) ks) n m e in
    (p.0, all_right judge (suc n) m ks p.1)

pub opened_right : (judge : Judge) (f clients every : ℕ) (me : Party) (bytes : List ℕ) (m : Msg) → opening judge f clients every me bytes ≡ Ok m → All (λ k. IsTrue (is_right judge k)) (checks_of f me m)
opened_right judge f clients every me bytes m e =
    let p = not_refused (is_refused me m) (checked_from judge 0 (checks_of f me m)) (opened judge f clients every me bytes m e).checked in
    All-from_recursion (λ k. IsTrue (is_right judge k)) (checks_of f me m) (all_right judge 0 p.1.0 (checks_of f me m) p.1.1)

pub opened_not_refused : (judge : Judge) (f clients every : ℕ) (me : Party) (bytes : List ℕ) (m : Msg) → opening judge f clients every me bytes ≡ Ok m → is_refused me m ≡ false
opened_not_refused judge f clients every me bytes m e = (not_refused (is_refused me m) (checked_from judge 0 (checks_of f me m)) (opened judge f clients every me bytes m e).checked).0

-- ---- statements of oneself

pub own_tags : (judge : Judge) (f clients every : ℕ) (me : Party) (bytes : List ℕ) (m : Msg) → ((text : List ℕ) (tag : Option (List ℕ)) → judge me text (by_tag tag) ≡ false)
    → opening judge f clients every me bytes ≡ Ok m → (k : Check) (tag : Option (List ℕ)) → Contains (checks_of f me m) k → k.token ≡ by_tag tag → maker_of k.content ≢ me
own_tags judge f clients every me bytes m none e k tag here is own =
    let right = All-contains (λ x. IsTrue (is_right judge x)) (checks_of f me m) k (opened_right judge f clients every me bytes m e) here in
    let so : judge me (spell_content k.content) (by_tag tag) ≡ true =
    ap (λ (t : Token). judge me (spell_content k.content) t) (sym is) ∙ (ap (λ (p : Party). judge p (spell_content k.content) k.token) (sym own) ∙ right) in
    false≢true (sym (none (spell_content k.content) tag) ∙ so)

pub own_prepares : (judge : Judge) (f clients every : ℕ) (me : Party) (bytes : List ℕ) (s : Signed) → opening judge f clients every me bytes ≡ Ok (msg.Prepare s) → maker_of s.content ≢ me
own_prepares judge f clients every me bytes s e own =
    false≢true (sym (opened_not_refused judge f clients every me bytes (msg.Prepare s) e) ∙ (ap (λ (p : Party). party_eq p me) own ∙ party_eq-refl me))

-- ---- the grammar

pub opened_message : (judge : Judge) (f clients every : ℕ) (me : Party) (bytes : List ℕ) (m : Msg) → IsBytes bytes → opening judge f clients every me bytes ≡ Ok m
    → IsMessage m × (bytes ≡ spell_message m) × IsTrue (takes f clients me m)
opened_message judge f clients every me bytes m fits e =
    let o = opened judge f clients every me bytes m e in
    let t = message-law.takes bytes m fits o.read in
    (t.1, t.0, o.taken)

-- ---- what was checked, each claim with its maker

makers : (ks : List Check) → map (λ (k : Check). by_maker k.content) ks ≡ map by_maker (map (λ (k : Check). k.content) ks)
makers [] = refl
makers (k ∷ ks) = ap (λ (xs : List (Party × Content)). by_maker k.content ∷ xs) (makers ks)

pub claims-by : (f : ℕ) (me : Party) (m : Msg) (ks : List Check) → ks ≡ checks_of f me m → map (λ (k : Check). by_maker k.content) ks ≡ claims_by_maker f me m
claims-by f me m ks e =
    ap (λ (l : List Check). map (λ (k : Check). by_maker k.content) l) e
    ∙ (makers (checks_of f me m) ∙ ap (λ (cs : List Content). map by_maker cs) (checked-claims f me m))
