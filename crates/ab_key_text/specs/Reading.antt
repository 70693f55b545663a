-- What the lines of a key text give: the keys of a party, or the first line that isn't as stated.
use Rattle.std.specs.Prelude.{◌≡◌, ◌⊎◌, ℕ, ◌+◌, List, [], ◌∷◌, ◌++◌, Option, None, Some, Result, Ok, Err, codes, take, drop, if◌then◌else◌}
use Rattle.std.specs.Option.{option_and_then}
use Rattle.ab_num.specs.declared.party.Party.{Party}
use Rattle.ab_num.specs.declared.party.Party.TheVariants.{Replica, Client}
use Rattle.ab_num.specs.declared.plan.Plan.{Plan}
use Rattle.ab_num.specs.declared.plan.ServiceName.{ServiceName}
use Rattle.ab_num.specs.declared.plan.Scheme.{Scheme}
use Rattle.ab_keys.specs.Keys.{is_party}
use Rattle.ab_keys.specs.Rings.{Peer}
use Rattle.ab_scheme.specs.Schemes.{public_length}
use Rattle.ab_text.specs.Heads.{spelled_in, stripped, plan_line, plans, service_line, services, lms_line, most_built}
use Rattle.ab_key_text.specs.declared.version.KeyVersion.{KeyVersion}
use Rattle.ab_key_text.specs.declared.version.KeyVersion.TheVariants.{One, Two, Three}
use Rattle.ab_key_text.specs.declared.fault.KeyFault.{KeyFault}
use Rattle.ab_key_text.specs.declared.fault.KeyFault.TheVariants as key_fault
use Rattle.ab_key_text.specs.declared.fault.NodeFault.{NodeFault}
use Rattle.ab_key_text.specs.declared.fault.NodeFault.TheVariants.{BadLine, NoEnd}
use Rattle.ab_text.specs.HexBytes.{bytes_in}
use Rattle.ab_key_text.specs.Keys.{Secret, PartyKeys, peers_in, replicas}
use Rattle.ab_key_text.specs.Lines.{◌>>=◌, line_at, own_schemes, number_in, party_in, bytes_after, key_in}
use Rattle.ab_key_text.specs.Spelling.{keys_line}
use Rattle.ab_key_text.specs.Versions.{key_versions, key_head_count}

-- the lines before the keys
pub record KeyLines : Type 0 where
  pub me : Party
  pub f : ℕ
  pub clients : ℕ
  pub plan : Plan
  pub every : ℕ
  pub service : ServiceName
  pub lms : Scheme

-- the party of line 2 is of the cluster that lines 3 and 4 give
abbrev pub member : ℕ → ℕ → Party → Result (Unit {0}) NodeFault
member f clients me = if is_party f clients me then Ok tt else Err (BadLine 2)

-- after how many requests a checkpoint is due: version 3 has a line for it, with no more than what is built of the plan
abbrev pub every_at : KeyVersion → Plan → List (List ℕ) → Result (ℕ × List (List ℕ)) NodeFault
every_at One plan ls = Ok (0, ls)
every_at Two plan ls = Ok (0, ls)
every_at Three plan ls = line_at (number_in (codes "checkpoint ") 1 (most_built plan)) 8 ls

-- what was read, the number of the next line, and the lines from it on
pub record Read (A : Type 0) : Type 0 where
  pub value : A
  pub next : ℕ
  pub rest : List (List ℕ)

unfoldable pub setting_at : List (List ℕ) → Result (Read KeyLines) NodeFault
setting_at ls = do
  version ← line_at (spelled_in keys_line key_versions) 1 ls
  me ← line_at (λ l. option_and_then party_in (stripped (codes "party ") l)) 2 version.1
  f ← line_at (number_in (codes "f ") 1 2) 3 me.1
  clients ← line_at (number_in (codes "clients ") 1 16) 4 f.1
  inside ← member f.0 clients.0 me.0
  plan ← line_at (spelled_in plan_line plans) 5 clients.1
  service ← line_at (spelled_in service_line services) 6 plan.1
  lms ← line_at (spelled_in lms_line (own_schemes version.0)) 7 service.1
  every ← every_at version.0 plan.0 lms.1
  Ok (record {
    value = record { me = me.0; f = f.0; clients = clients.0; plan = plan.0; every = every.0; service = service.0; lms = lms.0 };
    next = key_head_count version.0 + 1;
    rest = every.1;
  })

-- 16 bytes, a space and 32 bytes
abbrev pub secret_of_parts : Option (List ℕ) → Option (List ℕ) → Option Secret
secret_of_parts (Some id) (Some seed) = Some (record { id = id; seed = seed })
secret_of_parts None seed = None
secret_of_parts (Some id) None = None

abbrev pub secret_text_in : List ℕ → Option Secret
secret_text_in text = secret_of_parts (bytes_in 16 (take 32 text)) (bytes_after (codes " ") 32 (drop 32 text))

abbrev pub secret_in : List ℕ → Option Secret
secret_in l = option_and_then secret_text_in (stripped (codes "secret ") l)

-- a replica's secret stands in line n, and a client has none
abbrev pub secret_at : Party → ℕ → List (List ℕ) → Result (Read (Option Secret)) NodeFault
secret_at (Client c) n ls = Ok (record { value = None; next = n; rest = ls })
secret_at (Replica r) n ls = do
  secret ← line_at secret_in n ls
  Ok (record { value = Some secret.0; next = n + 1; rest = secret.1 })

-- from line n on the keys of these parties, after those that were read
abbrev pub peers_at : List Party → List Peer → ℕ → List (List ℕ) → Result (Read (List Peer)) NodeFault
peers_at [] done n ls = Ok (record { value = done; next = n; rest = ls })
peers_at (p ∷ ps) done n ls = do
  to ← line_at (key_in (codes "out ") p 32) n ls
  from ← line_at (key_in (codes "in ") p 32) (n + 1) to.1
  peers_at ps (done ++ record { party = p; to = to.0; from = from.0 } ∷ []) (n + 2) from.1

-- the same of the public keys of these replicas, each with so many bytes
abbrev pub publics_at : ℕ → List Party → List (List ℕ) → ℕ → List (List ℕ) → Result (Read (List (List ℕ))) NodeFault
publics_at long [] done n ls = Ok (record { value = done; next = n; rest = ls })
publics_at long (p ∷ ps) done n ls = do
  key ← line_at (key_in (codes "public ") p long) n ls
  publics_at long ps (done ++ key.0 ∷ []) (n + 1) key.1

abbrev pub put_together : KeyLines → Option Secret → List Peer → List (List ℕ) → PartyKeys
put_together s secret peers publics = record {
  f = s.f;
  clients = s.clients;
  plan = s.plan;
  every = s.every;
  service = s.service;
  lms = s.lms;
  me = s.me;
  secret = secret;
  peers = peers;
  publics = publics;
}

-- from line n on what comes after the head
unfoldable pub keys_after : KeyLines → ℕ → List (List ℕ) → Result (Read PartyKeys) NodeFault
keys_after s n ls = do
  secret ← secret_at s.me n ls
  peers ← peers_at (peers_in s.f s.clients s.me) [] secret.next secret.rest
  publics ← publics_at (public_length s.lms) (replicas s.f) [] peers.next peers.rest
  Ok (record { value = put_together s secret.value peers.value publics.value; next = publics.next; rest = publics.rest })

-- the keys at the front of the lines, and what comes after them
unfoldable pub keys_at : List (List ℕ) → Result (Read PartyKeys) NodeFault
keys_at ls = do
  setting ← setting_at ls
  keys_after setting.value setting.next setting.rest

-- nothing comes after them
abbrev pub ended : {A : Type 0} → A → ℕ → List (List ℕ) → Result A NodeFault
ended a n [] = Ok a
ended a n (l ∷ ls) = Err (BadLine n)

-- what the lines of a key text give
unfoldable pub keys_in : List (List ℕ) → Result PartyKeys NodeFault
keys_in ls = do
  keys ← keys_at ls
  ended keys.value keys.next keys.rest

-- the first line that isn't as stated, or that is missing
abbrev pub IsKeyFault : KeyFault → Result PartyKeys NodeFault → Type 0
IsKeyFault key_fault.OutOfMemory read = Unit {0}
IsKeyFault (key_fault.BadLine n) read = (read ≡ Err (BadLine n)) ⊎ (read ≡ Err (NoEnd n))
