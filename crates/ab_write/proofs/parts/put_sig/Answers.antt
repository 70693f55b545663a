use Rattle.ab_write.proofs.WriteLemmas.{sized}
use Rattle.ab_write.proofs.parts.put_sig.Goals as goal

pub returns : goal.returns
returns c =
    sized c.args.out.now.items c.put_u16.new.out.items c.put_bytes.new.out.items c.args.sig.now c.as_slice-bytes.result.now
    c.as_slice-bytes.ensures c.in_ok-put_u16.ensures.ok c.in_ok-put_bytes.ensures.ok
