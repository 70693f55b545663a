-- What parties take is in form, by whose keys it opens.
use Rattle.std.proofs.Common.{◌≡◌, ℕ, Bool, true, false, List, [], ◌∷◌, ◌++◌, Option, None, Some, Result, Ok, Err, refl, ap, nat_lt}
use Rattle.std.specs.Prelude.{Contains, if◌then◌else◌}
use Rattle.std.specs.List.{flat_map, list_all}
use Rattle.std.specs.Option.{option_map, option_to_list}
use Rattle.std.specs.Result.{result_ok}
use Rattle.std.proofs.lemmas.Option.{none-some, same_Some}
use Rattle.ab_num.specs.Bounds.{IsInBounds}
use Rattle.ab_num.specs.declared.party.Party.{Party}
use Rattle.ab_num.specs.declared.party.Party.TheVariants.{Replica, Client}
use Rattle.ab_form.specs.Formats.{IsBytes}
use Rattle.ab_hist.specs.declared.request.Request.{Request}
use Rattle.ab_hist.specs.Histories.{IsHistory}
use Rattle.ab_msg.specs.declared.message.Msg.{Msg}
use Rattle.ab_msg.specs.Carried.{stated_history}
use Rattle.ab_msg.specs.Claims.{claims}
use Rattle.ab_msg.specs.Messages.{IsMessage}
use Rattle.ab_open.specs.declared.fault.OpenFault.{OpenFault}
use Rattle.ab_open.specs.declared.fault.OpenFault.TheVariants.{NotMine}
use Rattle.ab_open.specs.Opening.{opening}
use Rattle.ab_open.proofs.ByteLemmas.{are_bytes}
use Rattle.ab_sign.specs.Judges.{judge_of}
use Rattle.ab_abs.specs.Ensembles.{Proto}
use Rattle.ab_abs.specs.Messages.{took}
use Rattle.ab_run.specs.Setups.{RunSetup}
use Rattle.ab_run.specs.Runs.{Event as Happening}
use Rattle.ab_run.specs.Premises.{AreFormed, IsFormedFor}
use Rattle.ab_run.specs.Local.{cue_message}
use Rattle.ab_client.specs.Clients.{told}
use Rattle.ab_loop.specs.Cores.{NodeEvent, invoke, message, timeout}
use Rattle.ab_party.specs.Credentials.{Credentials, opening_by}
use Rattle.ab_node.specs.Keys.{opened}
use Rattle.ab_node.specs.Replicas.{call_of}
use Rattle.ab_node.specs.Clients.{cue_of, is_command}
use Rattle.ab_node.specs.Locality.{Members, all_happens, call_event, cue_event, happens, members_after}

is_ok : (o : Result Msg OpenFault) (m : Msg) → result_ok o ≡ Some m → o ≡ Ok m
is_ok (Ok n) m is = ap Ok (same_Some n m is)
is_ok (Err fault) m is = absurd (none-some m is)

module _ (k : RunSetup) (grammar : (c : Credentials) (bytes : List ℕ) (m : Msg) → IsBytes bytes → opening (judge_of c.ring c.keys) c.ring.f c.ring.clients c.every c.ring.me bytes ≡ Ok m → IsMessage m)
    (histories : (f clients : ℕ) (me : Party) (m : Msg) → IsInBounds f clients → IsMessage m → (h : List Request) → Contains (flat_map stated_history (claims f me m)) h → IsHistory h) where
  of_grammar : (c : Credentials) (bytes : List ℕ) (m : Msg) → opened c bytes ≡ Some m → IsMessage m
  of_grammar c bytes m is = by (list_all (λ b. nat_lt b 256) bytes) refl (is_ok (opening_by c bytes) m is) where
    by : (b : Bool) → list_all (λ b. nat_lt b 256) bytes ≡ b → (if b then opening (judge_of c.ring c.keys) c.ring.f c.ring.clients c.every c.ring.me bytes else Err NotMine) ≡ Ok m → IsMessage m
    by true are ok = grammar c bytes m (are_bytes bytes are) ok
    by false are missed = absurd (let e : Err NotMine ≡ Ok m = missed in cc)

  opened_formed : (p : Party) (c : Credentials) (bytes : List ℕ) (m : Msg) → opened c bytes ≡ Some m → IsFormedFor k p m
  opened_formed p c bytes m is =
      let grammatical = of_grammar c bytes m is in
      record { of_grammar = grammatical; rises = λ h has. histories k.cluster.f k.cluster.clients p m k.cluster.in_bounds grammatical h has }

  formed_append : (a b : List Happening) → AreFormed k a → AreFormed k b → AreFormed k (a ++ b)
  formed_append [] b first second = second
  formed_append (e ∷ a) b first second = (first.0, formed_append a b first.1 second)

  module _ {P : Type 0} (proto : Proto P) where
    replica_formed : (r : ℕ) (c : Credentials) (e : NodeEvent) → AreFormed k (option_to_list (option_map (call_event r) (call_of c e)))
    replica_formed r c (invoke command) = tt
    replica_formed r c (message bytes) = go (opened c bytes) refl where
      go : (o : Option Msg) → opened c bytes ≡ o → AreFormed k (option_to_list (option_map (call_event r) (option_map took o)))
      go None is = tt
      go (Some m) is = (opened_formed (Replica r) c bytes m is, tt)
    replica_formed r c timeout = (tt, tt)

    client_formed : (w : Members P) (c : ℕ) (e : NodeEvent) → AreFormed k (option_to_list (option_map (cue_event c) (cue_of (w.clients c) e)))
    client_formed w c (invoke command) = go (is_command (w.clients c).seat.cli command) where
      go : (b : Bool) → AreFormed k (option_to_list (option_map (cue_event c) (if b then Some (told command) else None)))
      go true = (tt, tt)
      go false = tt
    client_formed w c (message bytes) = go (opened (w.clients c).credentials bytes) refl where
      go : (o : Option Msg) → opened (w.clients c).credentials bytes ≡ o → AreFormed k (option_to_list (option_map (cue_event c) (option_map cue_message o)))
      go None is = tt
      go (Some m) is = (opened_formed (Client c) (w.clients c).credentials bytes m is, tt)
    client_formed w c timeout = (tt, tt)

    one_formed : (w : Members P) (p : Party) (e : NodeEvent) → AreFormed k (happens proto w p e)
    one_formed w (Replica r) e = replica_formed r (w.replicas r).credentials e
    one_formed w (Client c) e = client_formed w c e

    pub all_formed : (w : Members P) (xs : List (Party × NodeEvent)) → AreFormed k (all_happens proto w xs)
    all_formed w [] = tt
    all_formed w (x ∷ xs) =
        let now = members_after proto w x.0 x.1 in
        formed_append (all_happens proto now xs) (happens proto w x.0 x.1) (all_formed now xs) (one_formed w x.0 x.1)
