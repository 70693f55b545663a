use Rattle.std.proofs.Common.{◌≡◌, List, ℕ, ◌++◌, ap, ◌∙◌, append_assoc}
use Rattle.ab_picture.proofs.whole.add_drawing.Goals as goal

-- what is added in eight steps
eight : (old o1 o2 o3 o4 o5 o6 o7 new t1 t2 t3 t4 t5 t6 t7 t8 : List ℕ) → o1 ≡ old ++ t1 → o2 ≡ o1 ++ t2 → o3 ≡ o2 ++ t3 → o4 ≡ o3 ++ t4 → o5 ≡ o4 ++ t5
    → o6 ≡ o5 ++ t6 → o7 ≡ o6 ++ t7 → new ≡ o7 ++ t8 → new ≡ old ++ (t1 ++ (t2 ++ (t3 ++ (t4 ++ (t5 ++ (t6 ++ (t7 ++ t8)))))))
eight old o1 o2 o3 o4 o5 o6 o7 new t1 t2 t3 t4 t5 t6 t7 t8 e1 e2 e3 e4 e5 e6 e7 e8 =
    e8
    ∙ ap (λ o. o ++ t8) e7
    ∙ append_assoc o6 t7 t8
    ∙ ap (λ o. o ++ (t7 ++ t8)) e6
    ∙ append_assoc o5 t6 (t7 ++ t8)
    ∙ ap (λ o. o ++ (t6 ++ (t7 ++ t8))) e5
    ∙ append_assoc o4 t5 (t6 ++ (t7 ++ t8))
    ∙ ap (λ o. o ++ (t5 ++ (t6 ++ (t7 ++ t8)))) e4
    ∙ append_assoc o3 t4 (t5 ++ (t6 ++ (t7 ++ t8)))
    ∙ ap (λ o. o ++ (t4 ++ (t5 ++ (t6 ++ (t7 ++ t8))))) e3
    ∙ append_assoc o2 t3 (t4 ++ (t5 ++ (t6 ++ (t7 ++ t8))))
    ∙ ap (λ o. o ++ (t3 ++ (t4 ++ (t5 ++ (t6 ++ (t7 ++ t8)))))) e2
    ∙ append_assoc o1 t2 (t3 ++ (t4 ++ (t5 ++ (t6 ++ (t7 ++ t8)))))
    ∙ ap (λ o. o ++ (t2 ++ (t3 ++ (t4 ++ (t5 ++ (t6 ++ (t7 ++ t8))))))) e1
    ∙ append_assoc old t1 (t2 ++ (t3 ++ (t4 ++ (t5 ++ (t6 ++ (t7 ++ t8))))))

pub returns : goal.returns
returns c =
    let rows = c.in_ok-add_rows.ensures in
    let lanes = c.in_ok-add_lanes.ensures in
    let colours = c.in_ok-add_colours.ensures in
    let stubs = c.in_ok-add_stubs.ensures in
    let arrows = c.in_ok-add_arrows.ensures in
    let names = c.in_ok-add_names.ensures in
    let moments = c.in_ok-add_moments.ensures in
    let signs = c.in_ok-add_signs.ensures in
    record {
      drawing = record {
        rows = rows.added;
        lanes = lanes.added;
        colours = colours.added;
        stubs = stubs.added;
        arrows = arrows.added;
        names = names.added;
        moments = moments.added;
        signs = signs.added;
      };
      is = eight c.args.out.now.items c.add_rows.new.out.items c.add_lanes.new.out.items c.add_colours.new.out.items c.add_stubs.new.out.items
          c.add_arrows.new.out.items c.add_names.new.out.items c.add_moments.new.out.items c.add_signs.new.out.items
          rows.added.text lanes.added.text colours.added.text stubs.added.text arrows.added.text names.added.text moments.added.text signs.added.text
          rows.is lanes.is colours.is stubs.is arrows.is names.is moments.is signs.is;
    }
