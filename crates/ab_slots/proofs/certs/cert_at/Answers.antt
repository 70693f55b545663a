use Rattle.std.proofs.Common.{◌∙◌, sym}
use Rattle.ab_slots.proofs.CertLemmas.{cert_there, cert_none}
use Rattle.ab_slots.proofs.certs.cert_at.Goals as goal

pub returns-in-Some : goal.returns-in-Some
returns-in-Some c = c.as_ref.ensures.value ∙ cert_there c.args.certs.now c.args.t c.in-Some.cert.now (sym c.in-Some.ensures)

pub returns-in-None : goal.returns-in-None
returns-in-None c = cert_none c.args.certs.now c.args.t (sym c.in-None.ensures)
