-- Messages that were joined are short.
use Rattle.std.proofs.Common.{◌≡◌, ℕ, ◌*◌, ◌<◌, ◌≤◌, List, [], ◌∷◌, length, Result, Ok, Err, IfOk, OnErr, inl, inr, refl, ap, sym, subst, ◌∙◌, arith}
use Rattle.std.specs.Prelude.{All, get_or}
use Rattle.std.specs.List.{sum_by}
use Rattle.std.proofs.lemmas.List.{get_or_default}
use Rattle.std.proofs.lemmas.List.Concat.{length-flat_map}
use Rattle.std.proofs.lemmas.List.Sums.{sum_by-le}
use Rattle.ab_num.specs.declared.memory.OutOfMemory.{OutOfMemory}
use Rattle.ab_num.specs.declared.party.Party.{Party}
use Rattle.ab_piece.specs.declared.taken.Taken.{Taken}
use Rattle.ab_piece.specs.Pieces.{IsPiece, Piece}
use Rattle.ab_piece.specs.Wholes.{Came, IsWholeOf}
use Rattle.ab_piece.specs.Joining.{Answer, OpenMessage, dropped, more, step_of, whole}
use Rattle.ab_piece.proofs.ReadLemmas.{body_short, piece_within}
use Rattle.ab_piece.proofs.WholeLemmas.{whole_came}
use Rattle.ab_loop.specs.Nodes.{AreOpened, IsShortAnswer}

came_piece : (ds : List (List ℕ)) (p : Piece) → Came ds p → IsPiece p
came_piece [] p c = absurd c
came_piece (bytes ∷ ds) p (inl is) = piece_within bytes p is
came_piece (bytes ∷ ds) p (inr c) = came_piece ds p c

-- the piece of this index
abbrev one_of : Party → ℕ → List (List ℕ) → ℕ → Piece
one_of sender number bodies i = record { sender = sender; number = number; index = i; count = length bodies; body = get_or bodies i [] }

few_bodies : (sender : Party) (number : ℕ) (bodies : List (List ℕ)) → ((i : ℕ) → i < length bodies → IsPiece (one_of sender number bodies i)) → length bodies ≤ 512
few_bodies sender number [] each = omega arith
few_bodies sender number (b ∷ bodies) each = let first = each 0 (omega arith) in let few = first.header.1.1.1 in omega (arith, few)

all_short : (sender : Party) (number : ℕ) (bodies : List (List ℕ)) → ((i : ℕ) → i < length bodies → IsPiece (one_of sender number bodies i)) → All (λ body. length body ≤ 8192) bodies
all_short sender number bodies each k d lt =
    subst (λ (body : List ℕ). length body ≤ 8192) (get_or_default bodies k [] d lt) (body_short (one_of sender number bodies k) (each k lt))

whole_short : (ds : List (List ℕ)) (m : List ℕ) → IsWholeOf ds m → length m ≤ 4194304
whole_short ds m w =
    let each : (i : ℕ) → i < length w.bodies → IsPiece (one_of w.sender w.number w.bodies i) = λ i lt. came_piece ds (one_of w.sender w.number w.bodies i) (w.each i lt) in
    let few : length w.bodies ≤ 512 = few_bodies w.sender w.number w.bodies each in
    let sum : sum_by (λ (body : List ℕ). length body) w.bodies ≤ length w.bodies * 8192 = sum_by-le (λ (body : List ℕ). length body) 8192 w.bodies (all_short w.sender w.number w.bodies each) in
    let size : length m ≡ sum_by (λ (body : List ℕ). length body) w.bodies = ap (λ (l : List ℕ). length l) w.bytes ∙ length-flat_map (λ (body : List ℕ). body) w.bodies in
    omega (arith, few, sum, size)

pub answers_short : (messages : List OpenMessage) (bytes : List ℕ) (a : Answer) → AreOpened messages → a ≡ (step_of messages bytes).answer → IsShortAnswer a
answers_short messages bytes (whole m) are is =
    whole_short (bytes ∷ are.datagrams) m (whole_came are.datagrams bytes m (ap (λ (ms : List OpenMessage). (step_of ms bytes).answer) (sym are.after) ∙ sym is))
answers_short messages bytes more are is = tt
answers_short messages bytes (dropped c) are is = tt

pub opens_on : (messages : List OpenMessage) (bytes : List ℕ) → AreOpened messages → AreOpened (step_of messages bytes).after
opens_on messages bytes are = record { datagrams = bytes ∷ are.datagrams; after = ap (λ (ms : List OpenMessage). (step_of ms bytes).after) are.after }

pub none_opened : AreOpened []
none_opened = record { datagrams = []; after = refl }

-- whatever a call answers
pub joins_on : (r : Result Taken OutOfMemory) (old new : List OpenMessage) (bytes : List ℕ) → IfOk r (λ taken. new ≡ (step_of old bytes).after) → OnErr r (new ≡ old) → AreOpened old → AreOpened new
joins_on (Ok t) old new bytes ok err are = subst AreOpened (sym ok) (opens_on old bytes are)
joins_on (Err e) old new bytes ok err are = subst AreOpened (sym err) are
