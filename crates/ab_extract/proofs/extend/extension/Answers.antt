use Rattle.std.proofs.Common.{◌≡◌, ◌<◌, ◌≤◌, ◌+◌, length, map, take, get_or, [], IfOk, List, ℕ, sym, ap, ◌∙◌, subst, arith}
use Rattle.std.proofs.lemmas.List.{length-map}
use Rattle.std.proofs.lemmas.Result.{IfOk-weaker}
use Rattle.ab_hist.specs.declared.request.Request.{Request}
use Rattle.ab_abs.specs.Extraction.{IsExtract}
use Rattle.ab_abs.specs.Rules.{IsExtension}
use Rattle.ab_extract.proofs.WalkLemmas.{map_get}
use Rattle.ab_extract.proofs.ExtendLemmas.{with_front, begun_lists, agreed_extends, alone_extends}
use Rattle.ab_extract.proofs.extend.extension.Goals as goal

-- too few begin with it
pub returns-then-len-q : goal.returns-then-len-q
returns-then-len-q c =
    let refs = c.args.lists.now in
    let lists = map (λ l. l.now) refs in
    let k = take c.args.n (get_or lists c.args.at []) in
    let this : get_or lists c.args.at [] ≡ c.index-lists-at.result.now = map_get (λ l. l.now) c.args.at refs c.index-lists-at.result [] c.requires.at c.index-lists-at.is in
    let front : c.cut.new.self ≡ k = c.cut.ensures ∙ ap (λ h. take c.args.n h) (c.in_ok-front.ensures ∙ sym this) in
    let are = begun_lists (λ l. l.now) k c.cut.new.self refs c.in_ok-begun.begun.items front c.in_ok-begun.ensures in
    let few : length (with_front k lists) < c.args.q = omega (arith, ap length are, length-map c.in_ok-begun.begun.items (λ l. l.now), c.len.ensures, c.if-len-q.true) in
    subst (λ (h : List Request). IsExtension c.args.q lists k h) (sym front) (alone_extends c.args.q lists k few)

-- what enough of them agree on
pub returns : goal.returns
returns c =
    let refs = c.args.lists.now in
    let lists = map (λ l. l.now) refs in
    let k = take c.args.n (get_or lists c.args.at []) in
    let this : get_or lists c.args.at [] ≡ c.index-lists-at.result.now = map_get (λ l. l.now) c.args.at refs c.index-lists-at.result [] c.requires.at c.index-lists-at.is in
    let front : c.cut.new.self ≡ k = c.cut.ensures ∙ ap (λ h. take c.args.n h) (c.in_ok-front.ensures ∙ sym this) in
    let are = begun_lists (λ l. l.now) k c.cut.new.self refs c.in_ok-begun.begun.items front c.in_ok-begun.ensures in
    let enough : c.args.q ≤ length (with_front k lists) = omega (arith, ap length are, length-map c.in_ok-begun.begun.items (λ l. l.now), c.len.ensures, c.if-len-q.false) in
    let half : length lists < c.args.q + c.args.q = omega (arith, c.requires.half, length-map refs (λ l. l.now)) in
    let seen : map (λ l. l.now) c.deref.result.now ≡ with_front k lists = ap (map (λ l. l.now)) c.deref.ensures.value ∙ are in
    IfOk-weaker c.extract_of.result (λ h. IsExtract c.args.q (map (λ l. l.now) c.deref.result.now) h) (λ h. IsExtension c.args.q lists k h)
    (λ h is. agreed_extends c.args.q lists k h half enough (subst (λ (ls : List (List Request)). IsExtract c.args.q ls h) seen is)) c.extract_of.ensures
