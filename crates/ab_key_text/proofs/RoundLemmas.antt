-- A whole key text, spelled and read.
use Rattle.std.proofs.Common.{◌≡◌, ℕ, zero, suc, ◌+◌, ◌*◌, ◌<◌, ◌≤◌, List, [], ◌∷◌, ◌++◌, map, Option, Some, Result, Ok, Err, IsTrue, codes, decimal, length, refl, sym, ap, ◌∙◌, arith, nat_eq, Bool, false, if◌then◌else◌, append-nil}
use Rattle.std.specs.Prelude.{flat_map}
use Rattle.std.specs.List.{range_with_len}
use Rattle.std.specs.Option.{option_and_then}
use Rattle.std.proofs.lemmas.Bool.{false_from_ne_true}
use Rattle.std.proofs.lemmas.Bool.Decides.{Decides-eqb, Decides-ltb}
use Rattle.ab_num.specs.declared.party.Party.{Party}
use Rattle.ab_num.specs.declared.party.Party.TheVariants.{Replica, Client}
use Rattle.ab_num.specs.declared.plan.Plan.{Plan}
use Rattle.ab_num.specs.declared.plan.Plan.TheVariants.{AZyzzyva, Aliph, Quorum, ZLight, Chain, Backup, ZCert}
use Rattle.ab_num.specs.declared.plan.ServiceName.{ServiceName}
use Rattle.ab_num.specs.declared.plan.Height.TheVariants.{Five, Ten}
use Rattle.ab_num.specs.declared.plan.Scheme.{Scheme}
use Rattle.ab_num.specs.declared.plan.Scheme.TheVariants.{Lms, Hss}
use Rattle.ab_num.specs.Bounds.{IsInBounds}
use Rattle.ab_keys.specs.Keys.{is_party}
use Rattle.ab_keys.specs.Rings.{Peer}
use Rattle.ab_scheme.specs.Schemes.{public_length}
use Rattle.ab_key_text.specs.declared.version.KeyVersion.{KeyVersion}
use Rattle.ab_key_text.specs.declared.version.KeyVersion.TheVariants.{One, Two, Three}
use Rattle.ab_text.specs.Cores.{party_text}
use Rattle.ab_text.specs.Heads.{stripped, spelled_in, plan_line, plans, service_line, services, lms_line, schemes, checkpoint_line, most_built}
use Rattle.ab_text.proofs.WordLemmas.{stripped-is}
use Rattle.ab_key_text.specs.declared.fault.NodeFault.{NodeFault}
use Rattle.ab_key_text.specs.declared.fault.NodeFault.TheVariants.{BadLine}
use Rattle.ab_key_text.specs.Keys.{Secret, PartyKeys, IsPartyKeys, peers_in, replicas}
use Rattle.ab_key_text.specs.Lines.{◌>>=◌, line_at, number_in, own_schemes, party_in}
use Rattle.ab_key_text.specs.Reading.{Read, KeyLines, every_at, member, setting_at, peers_at, publics_at, put_together, keys_after, keys_at, keys_in, ended}
use Rattle.ab_key_text.specs.Spelling.{keys_line, checkpoint_lines, cluster_lines, name_lines, key_lines, peer_lines, public_lines, secret_lines}
use Rattle.ab_key_text.specs.Versions.{key_versions, key_head_count, key_version_of, key_version_with}
use Rattle.ab_key_text.proofs.SpelledLemmas.{line_read, number_read, party_read, IsSmall, secret_at_read, after_secret, peers_read, publics_read}
use Rattle.ab_text.proofs.HeadLemmas.{plan_read, service_read}

abbrev Rest : Type 0
Rest = List (List ℕ)

abbrev Head : Type 0
Head = Result (Read KeyLines) NodeFault

abbrev pub setting : Party → ℕ → ℕ → Plan → ServiceName → Scheme → ℕ → KeyLines
setting me f c p v h k = record { me = me; f = f; clients = c; plan = p; every = k; service = v; lms = h }

-- the lines behind a head of this version
abbrev pub head_end : KeyVersion → KeyLines → Rest → Read KeyLines
head_end w s ls = record { value = s; next = key_head_count w + 1; rest = ls }

abbrev pub from8 : KeyVersion → Party → ℕ → ℕ → Plan → ServiceName → Scheme → Rest → Head
from8 w me f c p v h ls = every_at w p ls >>= λ (x : ℕ × Rest). Ok (head_end w (setting me f c p v h x.0) x.1)

abbrev pub from7 : KeyVersion → Party → ℕ → ℕ → Plan → ServiceName → Rest → Head
from7 w me f c p v ls = line_at (spelled_in lms_line (own_schemes w)) 7 ls >>= λ (x : Scheme × Rest). from8 w me f c p v x.0 x.1

abbrev pub from6 : KeyVersion → Party → ℕ → ℕ → Plan → Rest → Head
from6 w me f c p ls = line_at (spelled_in service_line services) 6 ls >>= λ (x : ServiceName × Rest). from7 w me f c p x.0 x.1

abbrev pub from5 : KeyVersion → Party → ℕ → ℕ → Rest → Head
from5 w me f c ls = line_at (spelled_in plan_line plans) 5 ls >>= λ (x : Plan × Rest). from6 w me f c x.0 x.1

abbrev pub inside : KeyVersion → Party → ℕ → ℕ → Rest → Head
inside w me f c ls = member f c me >>= λ (x : Unit {0}). from5 w me f c ls

abbrev pub from4 : KeyVersion → Party → ℕ → Rest → Head
from4 w me f ls = line_at (number_in (codes "clients ") 1 16) 4 ls >>= λ (x : ℕ × Rest). inside w me f x.0 x.1

abbrev pub from3 : KeyVersion → Party → Rest → Head
from3 w me ls = line_at (number_in (codes "f ") 1 2) 3 ls >>= λ (x : ℕ × Rest). from4 w me x.0 x.1

abbrev pub from2 : KeyVersion → Rest → Head
from2 w ls = line_at (λ l. option_and_then party_in (stripped (codes "party ") l)) 2 ls >>= λ (x : Party × Rest). from3 w x.0 x.1

pub version_read : (w : KeyVersion) → spelled_in keys_line key_versions (keys_line w) ≡ Some w
unfolding spelled_in
version_read One = refl
version_read Two = refl
version_read Three = refl

-- ---- checkpoints that are due

due : (k : ℕ) → 1 ≤ k → nat_eq k 0 ≡ false
due k some = false_from_ne_true (nat_eq k 0) (λ t. let e : k ≡ 0 = (Decides-eqb k 0).0 t in omega (arith, some, e))

pub version_due : (k : ℕ) (h : Scheme) → 1 ≤ k → key_version_of k h ≡ Three
version_due k h some = ap (λ (b : Bool). if b then key_version_with h else Three) (due k some)

pub lines_due : (k : ℕ) → 1 ≤ k → checkpoint_lines k ≡ checkpoint_line k ∷ []
lines_due k some = ap (λ (b : Bool). let ls : Rest = if b then [] else checkpoint_line k ∷ [] in ls) (due k some)

scheme_in_three : (h : Scheme) → spelled_in lms_line schemes (lms_line h) ≡ Some h
unfolding spelled_in
scheme_in_three (Lms Five) = refl
scheme_in_three (Lms Ten) = refl
scheme_in_three Hss = refl

-- the least version has the scheme
pub scheme_read : (k : ℕ) (h : Scheme) → spelled_in lms_line (own_schemes (key_version_of k h)) (lms_line h) ≡ Some h
unfolding spelled_in
scheme_read zero (Lms Five) = refl
scheme_read zero (Lms Ten) = refl
scheme_read zero Hss = refl
scheme_read (suc k) h = ap (λ (w : KeyVersion). spelled_in lms_line (own_schemes w) (lms_line h)) (version_due (suc k) h (omega arith)) ∙ scheme_in_three h

pub few_built : (p : Plan) → most_built p ≤ 128
few_built AZyzzyva = omega arith
few_built Aliph = omega arith
few_built Quorum = omega arith
few_built ZLight = omega arith
few_built Chain = omega arith
few_built Backup = omega arith
few_built ZCert = omega arith

-- and the checkpoints
pub every_read : (k : ℕ) (h : Scheme) (p : Plan) (rest : Rest) → k ≤ most_built p → every_at (key_version_of k h) p (checkpoint_lines k ++ rest) ≡ Ok (k, rest)
every_read zero (Lms height) p rest dense = refl
every_read zero Hss p rest dense = refl
every_read (suc k) h p rest dense =
    let few = few_built p in
    let some : 1 ≤ suc k = omega arith in
    (λ j. every_at (version_due (suc k) h some j) p (lines_due (suc k) some j ++ rest))
    ∙ line_read (number_in (codes "checkpoint ") 1 (most_built p)) 8 (checkpoint_line (suc k)) rest (suc k)
    (number_read (codes "checkpoint ") 1 (most_built p) (suc k) some dense (omega (arith, dense, few)))

small : (f clients : ℕ) (p : Party) → IsInBounds f clients → IsTrue (is_party f clients p) → IsSmall p
small f clients (Replica r) bounds in_cluster = let lt : r < 3 * f + 1 = (Decides-ltb r (3 * f + 1)).0 in_cluster in let few = bounds.few_faulty in omega (arith, lt, few)
small f clients (Client c) bounds in_cluster = let lt : c < clients = (Decides-ltb c clients).0 in_cluster in let few = bounds.few_clients in omega (arith, lt, few)

abbrev setting_in : PartyKeys → KeyLines
setting_in k = setting k.me k.f k.clients k.plan k.service k.lms k.every

-- the line behind the head of these keys
abbrev pub behind_head : PartyKeys → ℕ
behind_head k = key_head_count (key_version_of k.every k.lms) + 1

setting_read : (k : PartyKeys) (rest : Rest) → IsInBounds k.f k.clients → k.every ≤ most_built k.plan → IsTrue (is_party k.f k.clients k.me)
    → setting_at (cluster_lines k ++ (name_lines k ++ rest)) ≡ Ok (record { value = setting_in k; next = behind_head k; rest = rest })
unfolding setting_at
setting_read k rest bounds dense in_cluster =
    let f_low = bounds.some_faulty in
    let f_high = bounds.few_faulty in
    let c_low = bounds.some_client in
    let c_high = bounds.few_clients in
    let t8 : Rest = checkpoint_lines k.every ++ rest in
    let t7 : Rest = lms_line k.lms ∷ t8 in
    let t6 : Rest = service_line k.service ∷ t7 in
    let t5 : Rest = plan_line k.plan ∷ t6 in
    let t4 : Rest = (codes "clients " ++ decimal k.clients) ∷ t5 in
    let t3 : Rest = (codes "f " ++ decimal k.f) ∷ t4 in
    let t2 : Rest = (codes "party " ++ party_text k.me) ∷ t3 in
    let w = key_version_of k.every k.lms in
    let two : option_and_then party_in (stripped (codes "party ") (codes "party " ++ party_text k.me)) ≡ Some k.me = ap (option_and_then party_in) (stripped-is (codes "party ") (codes "party " ++ party_text k.me) (party_text k.me) refl) ∙ party_read k.me (small k.f k.clients k.me bounds in_cluster) in
    ap (λ (r : Result (KeyVersion × Rest) NodeFault). r >>= λ x. from2 x.0 x.1) (line_read (spelled_in keys_line key_versions) 1 (keys_line w) t2 w (version_read w))
    ∙ ap (λ (r : Result (Party × Rest) NodeFault). r >>= λ x. from3 w x.0 x.1) (line_read (λ l. option_and_then party_in (stripped (codes "party ") l)) 2 (codes "party " ++ party_text k.me) t3 k.me two)
    ∙ ap (λ (r : Result (ℕ × Rest) NodeFault). r >>= λ x. from4 w k.me x.0 x.1) (line_read (number_in (codes "f ") 1 2) 3 (codes "f " ++ decimal k.f) t4 k.f (number_read (codes "f ") 1 2 k.f f_low f_high (omega (arith, f_high))))
    ∙ ap (λ (r : Result (ℕ × Rest) NodeFault). r >>= λ x. inside w k.me k.f x.0 x.1) (line_read (number_in (codes "clients ") 1 16) 4 (codes "clients " ++ decimal k.clients) t5 k.clients (number_read (codes "clients ") 1 16 k.clients c_low c_high (omega (arith, c_high))))
    ∙ ap (λ b. (if b then Ok tt else Err (BadLine 2)) >>= λ (x : Unit {0}). from5 w k.me k.f k.clients t5) in_cluster
    ∙ ap (λ (r : Result (Plan × Rest) NodeFault). r >>= λ x. from6 w k.me k.f k.clients x.0 x.1) (line_read (spelled_in plan_line plans) 5 (plan_line k.plan) t6 k.plan (plan_read k.plan))
    ∙ ap (λ (r : Result (ServiceName × Rest) NodeFault). r >>= λ x. from7 w k.me k.f k.clients k.plan x.0 x.1) (line_read (spelled_in service_line services) 6 (service_line k.service) t7 k.service (service_read k.service))
    ∙ ap (λ (r : Result (Scheme × Rest) NodeFault). r >>= λ x. from8 w k.me k.f k.clients k.plan k.service x.0 x.1) (line_read (spelled_in lms_line (own_schemes w)) 7 (lms_line k.lms) t8 k.lms (scheme_read k.every k.lms))
    ∙ ap (λ (r : Result (ℕ × Rest) NodeFault). r >>= λ x. Ok (head_end w (setting k.me k.f k.clients k.plan k.service k.lms x.0) x.1)) (every_read k.every k.lms k.plan rest dense)

abbrev Whole : Type 0
Whole = Result (Read PartyKeys) NodeFault

abbrev with_publics : KeyLines → Option Secret → List Peer → ℕ → Rest → Whole
with_publics s secret peers n ls = publics_at (public_length s.lms) (replicas s.f) [] n ls >>= λ x. Ok (record { value = put_together s secret peers x.value; next = x.next; rest = x.rest })

abbrev with_peers : KeyLines → Option Secret → ℕ → Rest → Whole
with_peers s secret n ls = peers_at (peers_in s.f s.clients s.me) [] n ls >>= λ x. with_publics s secret x.value x.next x.rest

pub whole_read : (k : PartyKeys) (rest : Rest) → IsPartyKeys k
    → keys_at (cluster_lines k ++ (name_lines k ++ (secret_lines k.secret ++ (flat_map peer_lines k.peers ++ (public_lines 0 k.publics ++ rest)))))
    ≡ Ok (record { value = k; next = after_secret (behind_head k) k.secret + 2 * length k.peers + length k.publics; rest = rest })
unfolding keys_at keys_after
whole_read k rest good =
    let s = setting_in k in
    let n1 = after_secret (behind_head k) k.secret in
    let n2 = n1 + 2 * length k.peers in
    let r2 : Rest = public_lines 0 k.publics ++ rest in
    let r1 : Rest = flat_map peer_lines k.peers ++ r2 in
    let peers : peers_at (peers_in k.f k.clients k.me) [] n1 r1 ≡ Ok (record { value = k.peers; next = n2; rest = r2 }) =
    ap (λ ps. peers_at ps [] n1 r1) (sym good.peers) ∙ peers_read k.peers [] n1 r2 good.keys in
    let publics : publics_at (public_length k.lms) (replicas k.f) [] n2 r2 ≡ Ok (record { value = k.publics; next = n2 + length k.publics; rest = rest }) =
    ap (λ n. publics_at (public_length k.lms) (map Replica (range_with_len 0 n)) [] n2 r2) (sym good.public_of_each) ∙ publics_read (public_length k.lms) k.publics [] 0 n2 rest good.publics in
    ap (λ (r : Head). r >>= λ x. keys_after x.value x.next x.rest) (setting_read k (secret_lines k.secret ++ r1) good.bounds good.dense good.party)
    ∙ ap (λ (r : Result (Read (Option Secret)) NodeFault). r >>= λ x. with_peers s x.value x.next x.rest) (secret_at_read k.me (behind_head k) k.secret r1 good.secret)
    ∙ ap (λ (r : Result (Read (List Peer)) NodeFault). r >>= λ x. with_publics s k.secret x.value x.next x.rest) peers
    ∙ ap (λ (r : Result (Read (List (List ℕ))) NodeFault). r >>= λ x. Ok (record { value = put_together s k.secret k.peers x.value; next = x.next; rest = x.rest })) publics

-- what is spelled so is read
pub spelled_reads : (k : PartyKeys) → IsPartyKeys k → keys_in (key_lines k) ≡ Ok k
unfolding keys_in
spelled_reads k good =
    let all : key_lines k ≡ cluster_lines k ++ (name_lines k ++ (secret_lines k.secret ++ (flat_map peer_lines k.peers ++ (public_lines 0 k.publics ++ [])))) =
    ap (λ t. cluster_lines k ++ (name_lines k ++ (secret_lines k.secret ++ (flat_map peer_lines k.peers ++ t)))) (sym (append-nil (public_lines 0 k.publics))) in
    ap (λ ls. keys_at ls >>= λ x. ended x.value x.next x.rest) all
    ∙ ap (λ (r : Whole). r >>= λ x. ended x.value x.next x.rest) (whole_read k [] good)
