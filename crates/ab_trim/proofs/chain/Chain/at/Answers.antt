use Rattle.std.proofs.Common.{◌-◌, ◌/◌, ◌%◌, ◌<◌, length, slice_get, arith, ap, sym, ◌∙◌, refl}
use Rattle.std.proofs.lemmas.Option.{slice_get_read}
use Rattle.ab_hist.specs.Chunks.{entries_of}
use Rattle.ab_trim.proofs.ChunkLemmas.{in_chunks, below_64, chunk_within, in_chunk, entry_at}
use Rattle.ab_trim.proofs.chain.Chain.at.Goals as goal

pub index-part-requires : goal.index-part-requires
index-part-requires c =
    let items = c.self.inside.parts.items in
    let k = c.args.n - 1 in
    let within : k < length (entries_of items) = omega (arith, c.requires.0, c.requires.1, ap (λ k. length k.requests) c.self.view_is) in
    omega (arith, c.self.inside.parts.ok.0, chunk_within items c.self.invariant.filled k (k / 64) (k % 64) (in_chunks k) (below_64 k) within)

pub bounds-requests-n : goal.bounds-requests-n
bounds-requests-n c =
    let items = c.self.inside.parts.items in
    let k = c.args.n - 1 in
    let within : k < length (entries_of items) = omega (arith, c.requires.0, c.requires.1, ap (λ k. length k.requests) c.self.view_is) in
    let lt = chunk_within items c.self.invariant.filled k (k / 64) (k % 64) (in_chunks k) (below_64 k) within in
    let at = slice_get_read items (length items) (k / 64) c.index-part.result.now refl lt c.index-part.ensures in
    omega (arith, ap length c.requests.ensures, in_chunk items c.self.invariant.filled k (k / 64) (k % 64) (in_chunks k) c.index-part.result.now at (below_64 k) within)

pub returns : goal.returns
returns c =
    let items = c.self.inside.parts.items in
    let k = c.args.n - 1 in
    let within : k < length (entries_of items) = omega (arith, c.requires.0, c.requires.1, ap (λ k. length k.requests) c.self.view_is) in
    let lt = chunk_within items c.self.invariant.filled k (k / 64) (k % 64) (in_chunks k) (below_64 k) within in
    let at = slice_get_read items (length items) (k / 64) c.index-part.result.now refl lt c.index-part.ensures in
    let short = in_chunk items c.self.invariant.filled k (k / 64) (k % 64) (in_chunks k) c.index-part.result.now at (below_64 k) within in
    let here : k % 64 < length c.requests.result.now = omega (arith, ap length c.requests.ensures, short) in
    ap (λ l. slice_get l k) (sym (ap (λ k. k.requests) c.self.view_is))
    ∙ entry_at items c.self.invariant.filled k (k / 64) (k % 64) (in_chunks k) c.index-part.result.now at short
    ∙ ap (λ l. slice_get l (k % 64)) (sym c.requests.ensures)
    ∙ slice_get_read c.requests.result.now (length c.requests.result.now) (k % 64) c.index-requests-n.result refl here c.index-requests-n.is
