use Rattle.std.proofs.Common.{◌+◌, ◌*◌, [], ◌∷◌, ◌++◌, map, sym, ◌∙◌, ap}
use Rattle.std.specs.List.{range_with_len}
use Rattle.ab_num.specs.declared.party.Party.TheVariants.{Replica, Client}
use Rattle.ab_keys.specs.Rings.{peers_of}
use Rattle.ab_keys.proofs.RingLemmas.{peers_of-more}
use Rattle.ab_keys.proofs.ring.KeyRing.derive.Goals as goal

pub replicas-preserved : goal.replicas-preserved
replicas-preserved c =
    let seed = c.args.seed.now in
    c.in_ok-add.ensures ∙ ap (λ l. l ++ peers_of seed c.args.me (Replica c.replicas.r ∷ [])) c.replicas.invariant
    ∙ sym (peers_of-more seed c.args.me Replica [] c.replicas.r)

pub clients-preserved : goal.clients-preserved
clients-preserved c =
    let seed = c.args.seed.now in
    c.in_ok-add-2.ensures ∙ ap (λ l. l ++ peers_of seed c.args.me (Client c.clients.n ∷ [])) c.clients.invariant
    ∙ sym (peers_of-more seed c.args.me Client (map Replica (range_with_len 0 (3 * c.args.c.now.f + 1))) c.clients.n)
