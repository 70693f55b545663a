-- The lines of a key text.
use Rattle.std.specs.Prelude.{ℕ, ◌+◌, List, [], ◌∷◌, ◌++◌, Option, None, Some, codes, decimal, flat_map, nat_eq, if◌then◌else◌}
use Rattle.ab_num.specs.declared.party.Party.{Party}
use Rattle.ab_num.specs.declared.party.Party.TheVariants.{Replica}
use Rattle.hex.specs.Hex.{encode_lower}
use Rattle.ab_keys.specs.Rings.{Peer}
use Rattle.ab_text.specs.Cores.{party_text}
use Rattle.ab_key_text.specs.declared.version.KeyVersion.{KeyVersion}
use Rattle.ab_key_text.specs.declared.version.KeyVersion.TheVariants.{One, Two, Three}
use Rattle.ab_text.specs.Heads.{plan_line, service_line, lms_line, checkpoint_line}
use Rattle.ab_key_text.specs.Keys.{Secret, PartyKeys}
use Rattle.ab_key_text.specs.Versions.{key_version_of}

-- a word, a party and a key: `out r1 59f2..`
abbrev pub key_line : List ℕ → Party → List ℕ → List ℕ
key_line word p key = (word ++ party_text p ++ codes " ") ++ encode_lower key

abbrev pub secret_line : Secret → List ℕ
secret_line s = codes "secret " ++ (encode_lower s.id ++ 32 ∷ encode_lower s.seed)

abbrev pub secret_lines : Option Secret → List (List ℕ)
secret_lines None = []
secret_lines (Some s) = secret_line s ∷ []

-- the key to a peer, and the key from it
abbrev pub peer_lines : Peer → List (List ℕ)
peer_lines x = key_line (codes "out ") x.party x.to ∷ key_line (codes "in ") x.party x.from ∷ []

-- from replica r on
abbrev pub public_lines : ℕ → List (List ℕ) → List (List ℕ)
public_lines r [] = []
public_lines r (key ∷ keys) = key_line (codes "public ") (Replica r) key ∷ public_lines (r + 1) keys

abbrev pub keys_line : KeyVersion → List ℕ
keys_line One = codes "keys 1"
keys_line Two = codes "keys 2"
keys_line Three = codes "keys 3"

-- the first line is the least that has the scheme and the checkpoints
abbrev pub cluster_lines : PartyKeys → List (List ℕ)
cluster_lines k = keys_line (key_version_of k.every k.lms) ∷ (codes "party " ++ party_text k.me) ∷ (codes "f " ++ decimal k.f) ∷ (codes "clients " ++ decimal k.clients) ∷ []

-- where a checkpoint is never due, no line says so
abbrev pub checkpoint_lines : ℕ → List (List ℕ)
checkpoint_lines every = if nat_eq every 0 then [] else checkpoint_line every ∷ []

abbrev pub name_lines : PartyKeys → List (List ℕ)
name_lines k = plan_line k.plan ∷ service_line k.service ∷ lms_line k.lms ∷ checkpoint_lines k.every

abbrev pub key_lines : PartyKeys → List (List ℕ)
key_lines k = cluster_lines k ++ (name_lines k ++ (secret_lines k.secret ++ (flat_map peer_lines k.peers ++ public_lines 0 k.publics)))
