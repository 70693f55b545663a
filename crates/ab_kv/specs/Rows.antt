-- What a row of the store's table says.
use Rattle.std.specs.Prelude.{◌≡◌, ℕ, List, Option, None}
use Rattle.std.specs.FinMap.{len, get}
use Rattle.ab_hist.specs.declared.request.Request.{Request}
use Rattle.ab_kv.specs.Commands.{Spells, Put}
use Rattle.ab_kv.specs.Stores.{Store, ChangesOnly}
use Rattle.ab_kv.specs.KvMachines.{kv_machine}

-- the service answers m so, and stays as it was
pub record Reads (s : Store) (m : Request) (reply : List ℕ) : Type 0 where
  pub answer : (kv_machine.answer s m).items ≡ reply
  pub after : kv_machine.after s m ≡ s

-- the service answers m so, changes what it has at the key k to w and nothing else, and has n keys then
pub record Writes (s : Store) (m : Request) (reply k : List ℕ) (w : Option (List ℕ)) (n : ℕ) : Type 0 where
  pub answer : (kv_machine.answer s m).items ≡ reply
  pub after : ChangesOnly s (kv_machine.after s m) k w
  pub count : len (kv_machine.after s m) ≡ n

-- m gives a value to a key that has none
pub record PutsNewKey (s : Store) (m : Request) : Type 0 where
  pub key : List ℕ
  pub value : List ℕ
  pub put : Spells m.command.items (Put key value)
  pub new : get s key ≡ None
