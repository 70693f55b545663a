use Rattle.std.proofs.Common.{◌≡◌, ◌*◌, ◌/◌, ◌%◌, ◌<◌, ◌≤◌, ◌++◌, suc, Some, length, take, drop, slice_get, arith, ap, sym, ◌∙◌, subst}
use Rattle.std.proofs.lemmas.List.{length-drop, take_all, take-append-drop}
use Rattle.ab_hist.specs.Histories.{IsHistory}
use Rattle.ab_hist.specs.Chunks.{entries_of, digest_from}
use Rattle.ab_trim.specs.Chained.{AreFilled, StartFrom}
use Rattle.ab_trim.proofs.ChunkLemmas.{in_chunks, below_64, room_in_chunk, chunk_room, chunks_within, chunk_there, first_left, left_behind, whole_front, whole_rest, drop-filled, drop-starts, history_drop, rest_is, after_len, after_history, chunk_history, after_starts, digest_to, digest_on}
use Rattle.ab_trim.proofs.chain.Chain.take_front.Goals as goal

pub drop_front-requires : goal.drop_front-requires
drop_front-requires c =
    let cs = c.self.inside.parts.items in
    chunks_within cs c.self.invariant.filled c.args.n (omega (arith, c.requires, ap (λ k. length k.requests) c.self.view_is))

pub invariant_of-self : goal.invariant_of-self
invariant_of-self c =
    let cs = c.self.inside.parts.items in
    let n = c.args.n in
    let q = n / 64 in
    let same = ap (λ k. k.requests) c.self.view_is in
    let le : n ≤ length (entries_of cs) = omega (arith, c.requires, ap length same) in
    let whole : n ≡ 64 * q = omega (arith, in_chunks n, c.if-rest-eq0.true) in
    let is = c.drop_front.ensures in
    let rest = whole_rest cs c.self.invariant.filled q n whole le in
    let digest = c.digest_at-digest.ensures ∙ ap (λ k. digest_from k.start (take n k.requests)) (sym c.self.view_is) ∙ ap (digest_from c.self.inside.start) (sym (whole_front cs c.self.invariant.filled q n whole)) in
    record {
      filled = subst AreFilled (sym is) (drop-filled cs q c.self.invariant.filled);
      starts = subst (λ l. StartFrom c.digest_at-digest.result l) (sym is) (subst (λ d. StartFrom d (drop q cs)) (sym digest) (drop-starts c.self.inside.start cs q c.self.invariant.starts));
      history = subst IsHistory (sym (ap entries_of is ∙ rest)) (history_drop n (entries_of cs) c.self.invariant.history);
      few = omega (arith, ap length (ap entries_of is ∙ rest), length-drop n (entries_of cs), c.self.invariant.few);
      len = omega (arith, ap length (ap entries_of is ∙ rest), length-drop n (entries_of cs), c.self.invariant.len);
    }

pub returns-then-rest-eq0-clause-requests : goal.returns-then-rest-eq0-clause-requests
returns-then-rest-eq0-clause-requests c =
    let cs = c.self.inside.parts.items in
    let n = c.args.n in
    let q = n / 64 in
    let same = ap (λ k. k.requests) c.self.view_is in
    let le : n ≤ length (entries_of cs) = omega (arith, c.requires, ap length same) in
    let whole : n ≡ 64 * q = omega (arith, in_chunks n, c.if-rest-eq0.true) in
    ap (λ k. k.requests ++ entries_of c.drop_front.new.parts.items) c.new.ensures ∙ ap entries_of c.drop_front.ensures ∙ whole_rest cs c.self.invariant.filled q n whole le ∙ ap (drop n) same

pub remove-part-requires : goal.remove-part-requires
remove-part-requires c =
    let cs = c.self.inside.parts.items in
    let n = c.args.n in
    let q = n / 64 in
    let same = ap (λ k. k.requests) c.self.view_is in
    let le : n ≤ length (entries_of cs) = omega (arith, c.requires, ap length same) in
    let lt : q < length cs = chunk_there cs c.self.invariant.filled n le (omega (arith, c.if-rest-eq0.false)) in
    omega (arith, lt, ap length c.drop_front.ensures, length-drop q cs, c.drop_front.new.parts.ok.0)

pub overflow_sub-self-2 : goal.overflow_sub-self-2
overflow_sub-self-2 c =
    let cs = c.self.inside.parts.items in
    let n = c.args.n in
    let q = n / 64 in
    let same = ap (λ k. k.requests) c.self.view_is in
    let le : n ≤ length (entries_of cs) = omega (arith, c.requires, ap length same) in
    let lt : q < length cs = chunk_there cs c.self.invariant.filled n le (omega (arith, c.if-rest-eq0.false)) in
    let part = c.remove-part.result in
    let at : slice_get cs q ≡ Some part = first_left cs c.drop_front.new.parts.items q part c.drop_front.ensures lt c.remove-part.ensures.value in
    let room : n % 64 ≤ length part.requests = room_in_chunk cs c.self.invariant.filled n q (n % 64) (in_chunks n) part at (omega (arith, below_64 n)) le in
    omega (arith, chunk_room cs c.self.invariant.filled q part at, c.len-2.ensures.len, c.self.invariant.len)

pub of-requires : goal.of-requires
of-requires c =
    let cs = c.self.inside.parts.items in
    let n = c.args.n in
    let q = n / 64 in
    let same = ap (λ k. k.requests) c.self.view_is in
    let le : n ≤ length (entries_of cs) = omega (arith, c.requires, ap length same) in
    let lt : q < length cs = chunk_there cs c.self.invariant.filled n le (omega (arith, c.if-rest-eq0.false)) in
    let part = c.remove-part.result in
    let at : slice_get cs q ≡ Some part = first_left cs c.drop_front.new.parts.items q part c.drop_front.ensures lt c.remove-part.ensures.value in
    let room : n % 64 ≤ length part.requests = room_in_chunk cs c.self.invariant.filled n q (n % 64) (in_chunks n) part at (omega (arith, below_64 n)) le in
    record {
      history = chunk_history cs c.self.invariant.filled q part at c.self.invariant.history;
      small = c.self.invariant.filled.small q part at;
      within = room;
      digest = c.digest_at-digest.ensures ∙ ap (λ k. digest_from k.start (take n k.requests)) (sym c.self.view_is)
          ∙ sym (digest_to cs c.self.invariant.filled q part at c.self.inside.start n (n % 64) (in_chunks n) room c.self.invariant.starts);
    }

pub invariant_of-self-2 : goal.invariant_of-self-2
invariant_of-self-2 c =
    let cs = c.self.inside.parts.items in
    let n = c.args.n in
    let q = n / 64 in
    let same = ap (λ k. k.requests) c.self.view_is in
    let le : n ≤ length (entries_of cs) = omega (arith, c.requires, ap length same) in
    let lt : q < length cs = chunk_there cs c.self.invariant.filled n le (omega (arith, c.if-rest-eq0.false)) in
    let part = c.remove-part.result in
    let at : slice_get cs q ≡ Some part = first_left cs c.drop_front.new.parts.items q part c.drop_front.ensures lt c.remove-part.ensures.value in
    let room : n % 64 ≤ length part.requests = room_in_chunk cs c.self.invariant.filled n q (n % 64) (in_chunks n) part at (omega (arith, below_64 n)) le in
    let filled = c.self.invariant.filled in
    let is = left_behind cs c.drop_front.new.parts.items c.remove-part.new.self.items q c.drop_front.ensures c.remove-part.ensures.items in
    let digest : c.digest_at-self-inside.result ≡ digest_from part.start part.requests =
    c.digest_at-self-inside.ensures ∙ ap (digest_from part.start) (take_all c.len.result part.requests (omega (arith, c.len.ensures.len))) in
    let long = after_len cs filled q part at in
    record {
      filled = subst AreFilled (sym is) (drop-filled cs (suc q) filled);
      starts = subst (λ l. StartFrom c.digest_at-self-inside.result l) (sym is) (subst (λ d. StartFrom d (drop (suc q) cs)) (sym digest) (after_starts cs filled q part at c.self.inside.start c.self.invariant.starts));
      history = subst IsHistory (sym (ap entries_of is)) (after_history cs filled q part at c.self.invariant.history);
      few = omega (arith, long, ap (λ l. length (entries_of l)) is, c.self.invariant.few);
      len = omega (arith, long, ap (λ l. length (entries_of l)) is, c.self.invariant.len, c.len-2.ensures.len);
    }

pub returns-clause-start : goal.returns-clause-start
returns-clause-start c =
    let cs = c.self.inside.parts.items in
    let n = c.args.n in
    let q = n / 64 in
    let same = ap (λ k. k.requests) c.self.view_is in
    let le : n ≤ length (entries_of cs) = omega (arith, c.requires, ap length same) in
    let lt : q < length cs = chunk_there cs c.self.invariant.filled n le (omega (arith, c.if-rest-eq0.false)) in
    let part = c.remove-part.result in
    let at : slice_get cs q ≡ Some part = first_left cs c.drop_front.new.parts.items q part c.drop_front.ensures lt c.remove-part.ensures.value in
    let room : n % 64 ≤ length part.requests = room_in_chunk cs c.self.invariant.filled n q (n % 64) (in_chunks n) part at (omega (arith, below_64 n)) le in
    ap (λ k. k.start) c.of.ensures ∙ digest_to cs c.self.invariant.filled q part at c.self.inside.start n (n % 64) (in_chunks n) room c.self.invariant.starts
    ∙ ap (λ k. digest_from k.start (take n k.requests)) c.self.view_is

pub returns-clause-requests : goal.returns-clause-requests
returns-clause-requests c =
    let cs = c.self.inside.parts.items in
    let n = c.args.n in
    let q = n / 64 in
    let same = ap (λ k. k.requests) c.self.view_is in
    let le : n ≤ length (entries_of cs) = omega (arith, c.requires, ap length same) in
    let lt : q < length cs = chunk_there cs c.self.invariant.filled n le (omega (arith, c.if-rest-eq0.false)) in
    let part = c.remove-part.result in
    let at : slice_get cs q ≡ Some part = first_left cs c.drop_front.new.parts.items q part c.drop_front.ensures lt c.remove-part.ensures.value in
    let room : n % 64 ≤ length part.requests = room_in_chunk cs c.self.invariant.filled n q (n % 64) (in_chunks n) part at (omega (arith, below_64 n)) le in
    let is = left_behind cs c.drop_front.new.parts.items c.remove-part.new.self.items q c.drop_front.ensures c.remove-part.ensures.items in
    (λ i. (c.of.ensures i).requests ++ entries_of (is i)) ∙ sym (rest_is cs c.self.invariant.filled q part at n (n % 64) (in_chunks n) room) ∙ ap (drop n) same

pub returns-clause-joined : goal.returns-clause-joined
returns-clause-joined c =
    let part = c.remove-part.result in
    let r = c.args.n % 64 in
    c.digest_at-self-inside.ensures ∙ ap (digest_from part.start) (take_all c.len.result part.requests (omega (arith, c.len.ensures.len)) ∙ sym (take-append-drop r part.requests))
    ∙ digest_on part.start (take r part.requests) (drop r part.requests) ∙ ap (λ k. digest_from k.start k.requests) (sym c.of.ensures)
