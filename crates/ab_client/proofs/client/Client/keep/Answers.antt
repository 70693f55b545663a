use Rattle.std.proofs.Common.{All, sym, subst}
use Rattle.ab_msg.specs.Contents.{IsStopContent}
use Rattle.ab_msg.specs.Certs.{IsSigned}
use Rattle.ab_client.proofs.CertLemmas.{All-keep}
use Rattle.ab_client.proofs.client.Client.keep.Goals as goal

pub invariant_of-self-2 : goal.invariant_of-self-2
invariant_of-self-2 c =
    let q = c.self.invariant.0 in (
      record {
        instance = q.instance;
        stamp = q.stamp;
        cert = q.cert;
        last = q.last;
        votes = q.votes;
        signed = q.signed;
        kept = subst (All (IsSigned IsStopContent)) (sym c.in_ok-keep.ensures.ok) (All-keep (IsSigned IsStopContent) c.args.v c.requires c.self.inside.kept.items q.kept);
      },
      c.self.invariant.1,
      c.self.invariant.2,
    )
