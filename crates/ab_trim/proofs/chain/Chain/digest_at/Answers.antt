use Rattle.std.proofs.Common.{◌≡◌, ◌-◌, ◌+◌, ◌*◌, ◌/◌, ◌%◌, ◌<◌, length, take, arith, ap, ◌∙◌, refl}
use Rattle.std.proofs.lemmas.Option.{slice_get_read}
use Rattle.ab_hist.specs.Chunks.{entries_of, digest_from}
use Rattle.ab_trim.proofs.ChunkLemmas.{in_chunks, below_64, chunk_within, in_chunk, digest_to}
use Rattle.ab_trim.proofs.chain.Chain.digest_at.Goals as goal

pub index-part-requires : goal.index-part-requires
index-part-requires c =
    let items = c.self.inside.parts.items in
    let k = c.args.n - 1 in
    let within : k < length (entries_of items) = omega (arith, c.if-n-eq0.false, c.requires, ap (λ k. length k.requests) c.self.view_is) in
    omega (arith, c.self.inside.parts.ok.0, chunk_within items c.self.invariant.filled k (k / 64) (k % 64) (in_chunks k) (below_64 k) within)

pub digest_at-requires : goal.digest_at-requires
digest_at-requires c =
    let items = c.self.inside.parts.items in
    let k = c.args.n - 1 in
    let within : k < length (entries_of items) = omega (arith, c.if-n-eq0.false, c.requires, ap (λ k. length k.requests) c.self.view_is) in
    let lt = chunk_within items c.self.invariant.filled k (k / 64) (k % 64) (in_chunks k) (below_64 k) within in
    let at = slice_get_read items (length items) (k / 64) c.index-part.result.now refl lt c.index-part.ensures in
    omega (arith, in_chunk items c.self.invariant.filled k (k / 64) (k % 64) (in_chunks k) c.index-part.result.now at (below_64 k) within)

pub returns : goal.returns
returns c =
    let items = c.self.inside.parts.items in
    let k = c.args.n - 1 in
    let within : k < length (entries_of items) = omega (arith, c.if-n-eq0.false, c.requires, ap (λ k. length k.requests) c.self.view_is) in
    let lt = chunk_within items c.self.invariant.filled k (k / 64) (k % 64) (in_chunks k) (below_64 k) within in
    let at = slice_get_read items (length items) (k / 64) c.index-part.result.now refl lt c.index-part.ensures in
    let short = in_chunk items c.self.invariant.filled k (k / 64) (k % 64) (in_chunks k) c.index-part.result.now at (below_64 k) within in
    let place : c.args.n ≡ 64 * (k / 64) + (k % 64 + 1) = omega (arith, in_chunks k, c.if-n-eq0.false) in
    c.digest_at.ensures
    ∙ digest_to items c.self.invariant.filled (k / 64) c.index-part.result.now at c.self.inside.start c.args.n (k % 64 + 1) place (omega (arith, short)) c.self.invariant.starts
    ∙ ap (λ l. digest_from l.start (take c.args.n l.requests)) c.self.view_is
