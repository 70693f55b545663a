-- What a replica sends for what it does, and what that leaves of its shelf and its signatures.
use Rattle.std.specs.Prelude.{ℕ, zero, suc, ◌+◌, ◌*◌, ◌==◌, Bool, true, false, if◌then◌else◌, List, [], ◌∷◌, ◌++◌, length, flat_map, replicate, unwrap_or}
use Rattle.ab_num.specs.declared.party.Party.TheVariants.{Replica}
use Rattle.ab_msg.specs.declared.content.Content.{Content}
use Rattle.ab_msg.specs.declared.content.Content.TheVariants.{PrePrepare, Prepare, Commit, ViewChange, NewView}
use Rattle.ab_msg.specs.declared.value.Value.{Value}
use Rattle.ab_msg.specs.declared.value.Value.TheVariants.{Base, Request as Order}
use Rattle.ab_msg.specs.declared.message.Msg.{Msg}
use Rattle.ab_msg.specs.declared.message.Msg.TheVariants as msg
use Rattle.ab_msg.specs.declared.message.Offer.{Offer}
use Rattle.ab_msg.specs.declared.message.Offer.TheVariants as offer
use Rattle.ab_msg.specs.declared.message.Out.{Out}
use Rattle.ab_msg.specs.declared.change.Proof.{Proof}
use Rattle.ab_msg.specs.Pens.{Pen, moved}
use Rattle.ab_msg.specs.Slots.{slot_digest}
use Rattle.ab_wire.specs.Inside.{tag_in}
use Rattle.ab_slots.specs.declared.notice.Notice.{Notice}
use Rattle.ab_slots.specs.declared.notice.Notice.TheVariants.{Signs, Prepares, Changes, Enters, Offers, Leads}
use Rattle.ab_pbft_shelf.specs.declared.kept.SignedVote.{SignedVote}
use Rattle.ab_pbft_shelf.specs.declared.kept.Tagged.{Tagged}
use Rattle.ab_pbft_shelf.specs.declared.author.Author.{Author}
use Rattle.ab_pbft_shelf.specs.Shelves.{Shelf, with_ballot, with_certified, certified_front, own_proof, left_for, entered, proofs_for, tags_of}

-- ---- what is sent

-- to each of the first n replicas but me
abbrev pub to_others : ℕ → ℕ → (ℕ → Msg) → List Out
to_others zero me says = []
to_others (suc n) me says = to_others n me says ++ (if n == me then [] else record { to = Replica n; msg = says n } ∷ [])

abbrev pub no_tag : List ℕ
no_tag = replicate 32 0

-- a client's tag for replica r, zeros where there is none
abbrev pub tag_for : ℕ → List Tagged → ℕ → List ℕ
tag_for client tagged r = unwrap_or (tag_in r (tags_of client tagged)) no_tag

-- what stands in a PRE-PREPARE to replica r: the certificate of entry, or the request with its client's tag for r
abbrev pub offer_to : Shelf → Value → ℕ → Offer
offer_to s (Base h) r = offer.Base s.entry
offer_to s (Order m) r = offer.Request m (tag_for m.client s.tagged r)

-- the PRE-PREPARE, and the COMMIT, of a value for a slot of a view
abbrev pub offer_message : Author → Shelf → ℕ → ℕ → Value → ℕ → Msg
offer_message by s view slot value r = msg.PrePrepare (PrePrepare (Replica by.me) by.instance view slot (slot_digest value)) no_tag (offer_to s value r)

abbrev pub commit_message : Author → ℕ → ℕ → Value → Msg
commit_message by view slot value = msg.Commit (Commit (Replica by.me) by.instance view slot (slot_digest value)) no_tag

abbrev pub lead_message : Author → Shelf → ℕ → Msg
lead_message by s view = msg.NewView (NewView (Replica by.me) by.instance view) no_tag (proofs_for by.cluster.f view s.proofs)

-- the own VIEW-CHANGE for a view, with the next signature
abbrev pub own_change_of : Author → Shelf → Pen → ℕ → List (ℕ × List ℕ) → Proof
own_change_of by s pen view entries =
    let content = ViewChange (Replica by.me) by.instance view entries in
    own_proof by.me content (certified_front s.certified) (pen.sig content pen.used)

-- whether a deed is signed, whoever does it
abbrev pub is_signed : Notice → Bool
is_signed (Signs view slot x) = true
is_signed (Changes view entries) = true
is_signed _ = false

-- ---- along what it does

-- its signatures, its shelf and what it has sent
pub record Post : Type 0 where
  pub pen : Pen
  pub shelf : Shelf
  pub sent : List Out

module _ (by : Author) where
  abbrev pub tells : (ℕ → Msg) → Post → Post
  tells says p = record p { sent = p.sent ++ to_others (3 * by.cluster.f + 1) by.me says }

  -- the signature of the next content
  abbrev pub sig_of : Post → Content → List ℕ
  sig_of p s = p.pen.sig s p.pen.used

  abbrev pub ballot_by : ℕ → List ℕ → List ℕ → SignedVote
  ballot_by slot x sig = record { by = by.me; slot = slot; x = x; sig = sig }

  abbrev pub posts_prepare : ℕ → ℕ → List ℕ → Post → Post
  posts_prepare view slot x p =
      let s = Prepare (Replica by.me) by.instance view slot x in
      let sig = sig_of p s in
      tells (λ r. msg.Prepare (record { maker = by.me; content = s; sig = sig })) (record { pen = moved p.pen 1; shelf = with_ballot (ballot_by slot x sig) p.shelf; sent = p.sent })

  abbrev pub posts_commit : ℕ → ℕ → Value → Post → Post
  posts_commit view slot value p = tells (λ r. commit_message by view slot value) (record p { shelf = with_certified by.cluster.f view slot value p.shelf })

  abbrev pub posts_change : ℕ → List (ℕ × List ℕ) → Post → Post
  posts_change view entries p =
      let proof = own_change_of by p.shelf p.pen view entries in
      tells (λ r. msg.ViewChange proof) (record { pen = moved p.pen 1; shelf = left_for by.me view proof p.shelf; sent = p.sent })

  abbrev pub posts : Notice → Post → Post
  posts (Signs view slot x) p = posts_prepare view slot x p
  posts (Prepares view slot value) p = posts_commit view slot value p
  posts (Changes view entries) p = posts_change view entries p
  posts (Enters view) p = record p { shelf = entered view p.shelf }
  posts (Offers view slot value) p = tells (offer_message by p.shelf view slot value) p
  posts (Leads view) p = tells (λ r. lead_message by p.shelf view) p

  abbrev pub posts_all : List Notice → Post → Post
  posts_all [] p = p
  posts_all (d ∷ deeds) p = posts_all deeds (posts d p)

  -- what it signs in what it does
  abbrev pub signed_by : Notice → List Content
  signed_by (Signs view slot x) = Prepare (Replica by.me) by.instance view slot x ∷ []
  signed_by (Prepares view slot value) = []
  signed_by (Changes view entries) = ViewChange (Replica by.me) by.instance view entries ∷ []
  signed_by (Enters view) = []
  signed_by (Offers view slot value) = []
  signed_by (Leads view) = []

  abbrev pub signed_in_all : List Notice → List Content
  signed_in_all deeds = flat_map signed_by deeds

  -- how often it signs
  abbrev pub signings : List Notice → ℕ
  signings deeds = length (signed_in_all deeds)
