use Rattle.ab_write.proofs.WriteLemmas.{counted}
use Rattle.ab_write.proofs.spelled.put_counted.Goals as goal

pub returns : goal.returns
returns g c = counted g.T.Spelled.spelled c.args.out.now.items c.put_u8.new.out.items c.put_each.new.out.items c.args.all.now c.in_ok-put_u8.ensures.ok c.in_ok-put_each.ensures
