-- Which tags and signatures are right.
use Rattle.std.specs.Prelude.{ℕ, List, Bool, false}
use Rattle.ab_num.specs.declared.party.Party.{Party}
use Rattle.ab_num.specs.declared.party.Party.TheVariants.{Replica, Client}
use Rattle.ab_keys.specs.Rings.{Ring}
use Rattle.ab_keys.specs.Tags.{is_tag_from}
use Rattle.ab_check.specs.Checks.{Judge, by_tag, by_sig}
use Rattle.ab_scheme.specs.Schemes.{verified_by}
use Rattle.ab_sign.specs.declared.key.SignKey.{SignKey}
use Rattle.ab_sign.specs.Signers.{public_of}

-- whether a signature is the maker's over the text. No client has one
abbrev pub is_sig_from : List SignKey → Party → List ℕ → List ℕ → Bool
is_sig_from keys (Replica r) text sig = verified_by (public_of keys r) text sig
is_sig_from keys (Client c) text sig = false

-- what tags and signatures are checked by
pub record Checking : Type 0 where
  pub ring : Ring
  pub keys : List SignKey

-- by the ring of a party and the replicas' signature keys
abbrev pub judge_of : Ring → List SignKey → Judge
judge_of ring keys maker text (by_tag tag) = is_tag_from ring maker text tag
judge_of ring keys maker text (by_sig sig) = is_sig_from keys maker text sig
