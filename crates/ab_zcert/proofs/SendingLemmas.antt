-- What the primary sends, by the signed answer.
use Rattle.std.proofs.Common.{◌≡◌, ℕ, Option, None, Some, List, [], ◌∷◌, ◌++◌, refl, ap, ◌∙◌}
use Rattle.ab_num.specs.declared.party.Party.TheVariants.{Client}
use Rattle.ab_hist.specs.declared.request.Request.{Request}
use Rattle.ab_hist.specs.Known.{known_place}
use Rattle.ab_msg.specs.declared.message.Msg.TheVariants as msg
use Rattle.ab_msg.specs.declared.message.Out.{Out}
use Rattle.ab_msg.specs.declared.signed.Signed.{Signed}
use Rattle.ab_msg.specs.Pens.{Pen}
use Rattle.ab_abs.specs.declared.vote.Vote.{Vote}
use Rattle.ab_abs.specs.Members.{Member}
use Rattle.ab_msg.specs.declared.zcert.Zcert.{Zcert}
use Rattle.ab_zlight.specs.Rules.{Task, ordered, moved, log_with, orders_at, orders}
use Rattle.ab_zcert.specs.Rules.{Keeper, signed_spec, signed_specs, answers}

-- a place for a request is told alike whatever is logged
orders_moved : (f : ℕ) (q : Member) (t : Task) (m : Request) (tags : List (ℕ × List ℕ)) (place : Option ℕ) → orders_at f (moved q t) m tags place ≡ orders_at f q m tags place
orders_moved f q t m tags None = refl
orders_moved f q t m tags (Some x) = refl

pub sends_some : (pen : Pen) (f : ℕ) (q : Member) (m : Request) (tags : List (ℕ × List ℕ)) (answer : Option Vote) (signed : Signed) → Some signed ≡ signed_specs pen q m answer
    → orders_at f q m tags (known_place q.trimmed (log_with q m) m) ++ record { to = Client m.client; msg = msg.Spec signed } ∷ [] ≡ orders f q m tags answer ++ answers pen q m answer
sends_some pen f q m tags None signed is = absurd (cc (is))
sends_some pen f q m tags (Some vote) signed is =
    let same : signed ≡ signed_spec pen q m vote = cc (is) in
    ap (λ (s : Signed). orders_at f q m tags (known_place q.trimmed (log_with q m) m) ++ record { to = Client m.client; msg = msg.Spec s } ∷ []) same

-- the same of what a replica sends that has logged the request
pub sends_moved : (pen : Pen) (f : ℕ) (q : Member) (z : Option Zcert) (new : Keeper) (m : Request) (tags : List (ℕ × List ℕ)) (answer : Option Vote) (signed : Signed) (outs : List Out)
    → new ≡ record { light = record { f = f; at = moved q (ordered m) }; zcert = z } → Some signed ≡ signed_specs pen q m answer
    → outs ≡ orders_at new.light.f new.light.at m tags (known_place new.light.at.trimmed new.light.at.log m) ++ record { to = Client m.client; msg = msg.Spec signed } ∷ []
    → outs ≡ orders f q m tags answer ++ answers pen q m answer
sends_moved pen f q z new m tags answer signed outs now is sent =
    let told : List Out = record { to = Client m.client; msg = msg.Spec signed } ∷ [] in
    sent
    ∙ (ap (λ (v : Keeper). orders_at v.light.f v.light.at m tags (known_place v.light.at.trimmed v.light.at.log m) ++ told) now
    ∙ (ap (λ (o : List Out). o ++ told) (orders_moved f q (ordered m) m tags (known_place q.trimmed (log_with q m) m)) ∙ sends_some pen f q m tags answer signed is))

pub sends_none : (pen : Pen) (f : ℕ) (q : Member) (m : Request) (tags : List (ℕ × List ℕ)) (answer : Option Vote) → None ≡ signed_specs pen q m answer → orders f q m tags answer ++ answers pen q m answer ≡ []
sends_none pen f q m tags None is = refl
sends_none pen f q m tags (Some vote) is = absurd (cc (is))
