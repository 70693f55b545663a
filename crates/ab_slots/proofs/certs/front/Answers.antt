use Rattle.std.proofs.Common.{rules, ◌≡◌, ◌++◌, ◌∷◌, [], Some, None}
use Rattle.ab_lock.specs.Steps.{cert_at}
use Rattle.ab_slots.proofs.CertLemmas.{front_more, front_ends}
use Rattle.ab_slots.proofs.certs.front.Goals as goal

pub returns-in-None : goal.returns-in-None
returns-in-None c =
    let e : cert_at c.args.certs.now c.slots.t ≡ None = search rules in
    front_ends (cert_at c.args.certs.now) c.args.most c.slots.t c.slots.front.items c.slots-test.true e c.slots.invariant

pub slots-preserved : goal.slots-preserved
slots-preserved c =
    let e : cert_at c.args.certs.now c.slots.t ≡ Some c.in-Some.cert.now = search rules in
    let is : c.push.new.self.items ≡ c.slots.front.items ++ c.in_ok-copy-in-Some.copy ∷ [] = search rules in
    let copied : c.in_ok-copy-in-Some.copy ≡ c.in-Some.cert.now = c.in_ok-copy-in-Some.ensures in
    rw (is, copied) (front_more (cert_at c.args.certs.now) c.args.most c.slots.t c.in-Some.cert.now c.slots.front.items c.slots-test.true e c.slots.invariant)
