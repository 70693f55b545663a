use Rattle.ab_lms.proofs.Chains.{leads}
use Rattle.ab_lms.proofs.one_time.signature_leads_to_key.Goals as goal

pub returns : goal.returns
returns c id seed message q = leads id seed message q
