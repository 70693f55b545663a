-- What one core among many does with what comes to it.
use Rattle.std.specs.Prelude.{◌≡◌, ℕ, Bool, All, List, slice_set}
use Rattle.ab_num.specs.declared.party.Party.TheVariants.{Replica, Client}
use Rattle.ab_num.specs.declared.plan.Kind.{Kind}
use Rattle.ab_msg.specs.declared.message.Out.{Out}
use Rattle.ab_abs.specs.declared.seen.Seen.{Seen}
use Rattle.ab_abs.specs.Ensembles.{Proto}
use Rattle.ab_abs.specs.Messages.{Call}
use Rattle.ab_run.specs.Local.{Cue}
use Rattle.ab_run.specs.Forms.{IsDraftOf}
use Rattle.ab_replica.specs.Sites.{Site}
use Rattle.ab_replica.specs.Doings.{Hears}
use Rattle.ab_client.specs.Clients.{Seat}
use Rattle.ab_party.specs.Parties.{ClientHears}
use Rattle.ab_cast.specs.Setups.{Setup, run_setup}
use Rattle.ab_cast.specs.Casts.{IsSite}

-- the one of these at a place takes what comes, as replica r of the cluster: it alone changes, and what it sends is the replica's own
pub record RepHears {P : Type 0} (proto : Proto P) (serves : Kind → Bool) (x : Setup) (r at : ℕ) (s : Site P) (call : Call) (old new : List (Site P)) (outs : List Out) (marks : List Seen) (spent : Bool) : Type 0 where
  pub now : Site P
  pub set : new ≡ slice_set old at now
  pub hears : Hears proto (run_setup x) s call now outs marks spent
  pub site : IsSite proto serves x r now
  pub drafts : All (IsDraftOf x.cluster.f (Replica r)) outs

-- the same of client n
pub record CliHears (x : Setup) (n at : ℕ) (s : Seat) (cue : Cue) (old new : List Seat) (outs : List Out) (marks : List Seen) (spent : Bool) : Type 0 where
  pub now : Seat
  pub set : new ≡ slice_set old at now
  pub hears : ClientHears s cue now outs marks spent
  pub drafts : All (IsDraftOf x.cluster.f (Client n)) outs
