-- The pen moves once a signature.
use Rattle.std.proofs.Common.{◌≡◌, ℕ, ◌+◌, List, [], ◌∷◌, refl, ap, ◌∙◌, arith, length, length-append}
use Rattle.ab_msg.specs.Pens.{Pen, moved}
use Rattle.ab_slots.specs.declared.notice.Notice.{Notice}
use Rattle.ab_slots.specs.declared.notice.Notice.TheVariants.{Signs, Prepares, Changes, Enters, Offers, Leads}
use Rattle.ab_pbft_shelf.specs.declared.author.Author.{Author}
use Rattle.ab_pbft_shelf.specs.Posts.{Post, posts, posts_all, signed_by, signed_in_all, signings}

used_as : (pen : Pen) (n m : ℕ) → n ≡ m → ◌≡◌ {A = Pen} (record { used = n; sig = pen.sig }) (record { used = m; sig = pen.sig })
used_as pen n m is = let at : ℕ → Pen = λ k. record { used = k; sig = pen.sig } in ap at is

moved_none : (pen : Pen) → pen ≡ moved pen 0
moved_none pen = used_as pen pen.used (pen.used + 0) (omega arith)

moved_both : (pen : Pen) (a b n : ℕ) → n ≡ a + b → moved (moved pen a) b ≡ moved pen n
moved_both pen a b n is = used_as pen ((pen.used + a) + b) (pen.used + n) (omega (arith, is))

module _ (by : Author) where
  pub pen_by : (d : Notice) (p : Post) → (posts by d p).pen ≡ moved p.pen (length (signed_by by d))
  pen_by (Signs view slot x) p = refl
  pen_by (Prepares view slot value) p = moved_none p.pen
  pen_by (Changes view entries) p = refl
  pen_by (Enters view) p = moved_none p.pen
  pen_by (Offers view slot value) p = moved_none p.pen
  pen_by (Leads view) p = moved_none p.pen

  pub pen_all : (deeds : List Notice) (p : Post) → (posts_all by deeds p).pen ≡ moved p.pen (signings by deeds)
  pen_all [] p = moved_none p.pen
  pen_all (d ∷ deeds) p =
      let more = pen_all deeds (posts by d p) in
      more
      ∙ (ap (λ (pen : Pen). moved pen (signings by deeds)) (pen_by d p)
      ∙ moved_both p.pen (length (signed_by by d)) (signings by deeds) (signings by (d ∷ deeds)) (length-append (signed_by by d) (signed_in_all by deeds)))
