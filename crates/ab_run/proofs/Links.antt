-- Links that are apart.
use Rattle.std.proofs.Common.{◌≡◌, ℕ, List, ◌++◌, inl, inr}
use Rattle.std.specs.Prelude.{Contains}
use Rattle.std.proofs.lemmas.List.Elements.{Contains-append_left, Contains-append_right, Contains-append_cases}
use Rattle.ab_num.proofs.Lists.{Contains-flat_map, flat_map_cases}
use Rattle.ab_hist.specs.declared.request.Request.{Request}
use Rattle.ab_hist.specs.Digests.{NoCollision}
use Rattle.ab_hist.specs.Trimmed.{Trimmed, untrimmed}
use Rattle.ab_trim.specs.Links.{links_of, links_of_all, links_in, AreApart, NoneCollide}
use Rattle.ab_trim.proofs.Chains.{apart_histories}

-- some of them are apart too
apart_among : (some all : List (List ℕ × Request)) → ((a : List ℕ × Request) → Contains some a → Contains all a) → AreApart all → AreApart some
apart_among some all among apart = record {
  different = λ a b in_a in_b same. apart.different a b (among a in_a) (among b in_b) same;
  later = λ a in_a. apart.later a (among a in_a);
}

pub fewer_apart : (hs ks : List (List Request)) (ts us : List Trimmed) → ((h : List Request) → Contains hs h → Contains ks h) → ((t : Trimmed) → Contains ts t → Contains us t) → NoneCollide ks us → NoneCollide hs ts
fewer_apart hs ks ts us histories lists apart =
    apart_among (links_of_all hs ++ links_in ts) (links_of_all ks ++ links_in us)
    (λ a has. elim (Contains-append_cases (links_of_all hs) (links_in ts) a has) [
      | inl one ↦
          let h = flat_map_cases (λ (k : List Request). links_of (untrimmed k)) hs a one in
          Contains-append_left (links_of_all ks) (links_in us) a (Contains-flat_map (λ (k : List Request). links_of (untrimmed k)) ks h.0 a (histories h.0 h.1) h.2)
      | inr one ↦
          let t = flat_map_cases links_of ts a one in
          Contains-append_right (links_of_all ks) (links_in us) a (Contains-flat_map links_of us t.0 a (lists t.0 t.1) t.2)
    ])
    apart

-- and no digests of the histories collide
pub no_collision : (hs : List (List Request)) (ts : List Trimmed) → NoneCollide hs ts → NoCollision hs
no_collision hs ts apart =
    apart_histories hs (apart_among (links_of_all hs) (links_of_all hs ++ links_in ts) (λ a has. Contains-append_left (links_of_all hs) (links_in ts) a has) apart)
