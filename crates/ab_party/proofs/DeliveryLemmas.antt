-- A message opens where all that is looked at is right.
use Rattle.std.proofs.Common.{◌≡◌, ℕ, suc, true, false, cond, IsTrue, List, [], ◌∷◌, Ok, Err, refl, sym, ap, ◌∙◌, All}
use Rattle.std.specs.Prelude.{Bool, Result, ◌==◌, ◌&&◌}
use Rattle.std.specs.List.{list_all}
use Rattle.std.proofs.lemmas.Bool.{and_parts}
use Rattle.std.proofs.lemmas.List.Elements.{All-head, All-tail}
use Rattle.ab_num.specs.declared.party.Party.{Party}
use Rattle.ab_msg.specs.declared.message.Msg.{Msg}
use Rattle.ab_msg.specs.declared.message.Msg.TheVariants as msg
use Rattle.ab_msg.specs.Carried.{goes_to, parties_of}
use Rattle.ab_msg.specs.Messages.{IsMessage, spell_message}
use Rattle.ab_open.proofs.MessageLemmas.{message-law}
use Rattle.ab_check.specs.Checks.{Check, Judge, checks, checked_from, checks_of, is_refused, is_right, outcome}
use Rattle.ab_keys.specs.Keys.{is_party}
use Rattle.ab_keys.specs.Rings.{Ring}
use Rattle.ab_open.specs.declared.fault.OpenFault.TheVariants as fault
use Rattle.ab_open.specs.Opening.{takes, verdict, judged, opening}
use Rattle.ab_open.specs.Trimmed.{allowed, holds_trimmed}
use Rattle.ab_form.specs.declared.bad.Bad.{Bad}
use Rattle.ab_form.specs.declared.bad.Bad.TheVariants.{BadLength}
use Rattle.ab_seal.specs.Sealing.{tagged}

abbrev IsRight : Judge → Check → Type 0
IsRight judge k = IsTrue (is_right judge k)

-- checks that are all right lead to the place behind them
checked_right : (judge : Judge) (n : ℕ) (ks : List Check) → All (IsRight judge) ks → (m : ℕ) × (checked_from judge n ks ≡ Ok m)
checked_right judge n [] h = (n, refl)
checked_right judge n (k ∷ ks) h =
    let rest = checked_right judge (suc n) ks (All-tail (IsRight judge) k ks h) in
    (rest.0, ap (λ b. cond b (checked_from judge (suc n) ks) (Err n)) (All-head (IsRight judge) k ks h) ∙ rest.1)

checks_right : (judge : Judge) (f : ℕ) (me : Party) (m : Msg) → is_refused me m ≡ false → All (IsRight judge) (checks_of f me m) → checks judge f me m ≡ Ok tt
checks_right judge f me m taken h =
    let p = checked_right judge 0 (checks_of f me m) h in
    ap (λ b. cond b (Err 0) (outcome (checked_from judge 0 (checks_of f me m)))) taken ∙ ap outcome p.1

-- the bytes of a message open
pub spelled-open : (judge : Judge) (f clients every : ℕ) (me : Party) (m : Msg) → IsMessage m → takes f clients me m ≡ true → is_refused me m ≡ false
    → (every == 0 && holds_trimmed m) ≡ false → All (IsRight judge) (checks_of f me m) → opening judge f clients every me (spell_message m) ≡ Ok m
spelled-open judge f clients every me m fits taken may whole h =
    ap (λ (r : Result Msg Bad). judged judge f clients me (allowed every r)) (message-law.again m fits)
    ∙ (ap (λ (b : Bool). judged judge f clients me (cond b (Err BadLength) (Ok m))) whole
    ∙ (ap (λ b. cond b (verdict m (checks judge f me m)) (Err fault.NotMine)) taken ∙ ap (verdict m) (checks_right judge f me m may h)))

-- whom a message goes to isn't a matter of its maker's tags
goes-tagged : (ring : Ring) (b : Party) (m : Msg) → goes_to (tagged ring b m) b ≡ goes_to m b
goes-tagged ring b (msg.Req content tags) = refl
goes-tagged ring b (msg.Order content client_tag tag) = refl
goes-tagged ring b (msg.Resp content tag) = refl
goes-tagged ring b (msg.Chain i m n d reply tags) = refl
goes-tagged ring b (msg.Panic content tag) = refl
goes-tagged ring b (msg.Abort abort) = refl
goes-tagged ring b (msg.Init cert) = refl
goes-tagged ring b (msg.PrePrepare content tag offer) = refl
goes-tagged ring b (msg.Prepare prepare) = refl
goes-tagged ring b (msg.Commit content tag) = refl
goes-tagged ring b (msg.ViewChange change) = refl
goes-tagged ring b (msg.NewView content tag changes) = refl
goes-tagged ring b (msg.Checkpoint content tag) = refl
goes-tagged ring b (msg.LocalCommit content tag) = refl
goes-tagged ring b (msg.Spec spec) = refl
goes-tagged ring b (msg.Cert i z) = refl

pub taken-goes : (f clients : ℕ) (ring : Ring) (b : Party) (m : Msg) → takes f clients b (tagged ring b m) ≡ true → goes_to m b ≡ true
taken-goes f clients ring b m h = sym (goes-tagged ring b m) ∙ (and_parts (goes_to (tagged ring b m) b) (list_all (is_party f clients) (parties_of f b (tagged ring b m))) h).0
