-- What a correct party states in its drafts.
use Rattle.std.proofs.Common.{◌≡◌, ℕ, true, Bool, List, [], ◌∷◌, ◌++◌, map, refl, ap, ◌∙◌, append-nil}
use Rattle.std.proofs.lemmas.List.{map-append}
use Rattle.std.proofs.lemmas.List.Sums.{fold-append}
use Rattle.std.specs.Prelude.{Contains, flat_map, if◌then◌else◌}
use Rattle.std.specs.List.{filter, fold}
use Rattle.std.proofs.lemmas.Grind.{flat_map-append}
use Rattle.ab_num.specs.declared.party.Party.{Party}
use Rattle.ab_num.specs.Parties.{party_eq}
use Rattle.ab_num.proofs.Lists.{Contains-head, Contains-tail}
use Rattle.ab_msg.specs.declared.content.Content.{Content}
use Rattle.ab_msg.specs.declared.message.Out.{Out}
use Rattle.ab_msg.specs.Claims.{fresh, maker_of, stated}
use Rattle.ab_msg.specs.Contents.{spell_content}
use Rattle.ab_abs.proofs.Facts.{party_eq-Decides}
use Rattle.ab_run.specs.Stages.{keep}
use Rattle.ab_run.specs.Forms.{IsDraftOf}

-- a filter that each element passes
passes_all : (test : Content → Bool) (xs : List Content) → ((s : Content) → Contains xs s → test s ≡ true) → filter test xs ≡ xs
passes_all test [] each = refl
passes_all test (x ∷ xs) each =
    ap (λ (b : Bool). if b then x ∷ filter test xs else filter test xs) (each x (Contains-head x xs))
    ∙ ap (λ l. x ∷ l) (passes_all test xs (λ s has. each s (Contains-tail x s xs has)))

-- whatever a draft states is its party's
states_all : (f : ℕ) (p : Party) (o : Out) → IsDraftOf f p o → stated f p o.msg ≡ fresh f p o.msg
states_all f p o draft = passes_all (λ c. party_eq (maker_of c) p) (fresh f p o.msg) (λ s has. (party_eq-Decides (maker_of s) p).1 (draft.own s has))

pub states_more : (f : ℕ) (p : Party) (made : List (List ℕ)) (outs : List Out) (o : Out) → IsDraftOf f p o
    → fold keep made (map spell_content (flat_map (λ q. stated f p q.msg) (outs ++ o ∷ []))) ≡ fold keep (fold keep made (map spell_content (flat_map (λ q. stated f p q.msg) outs))) (map spell_content (fresh f p o.msg))
states_more f p made outs o draft =
    let before = flat_map (λ q. stated f p q.msg) outs in
    ap (λ l. fold keep made (map spell_content l)) (flat_map-append (λ q. stated f p q.msg) outs (o ∷ []) ∙ ap (λ l. before ++ l) (append-nil (stated f p o.msg) ∙ states_all f p o draft))
    ∙ ap (fold keep made) (map-append spell_content before (fresh f p o.msg))
    ∙ fold-append keep made (map spell_content before) (map spell_content (fresh f p o.msg))
