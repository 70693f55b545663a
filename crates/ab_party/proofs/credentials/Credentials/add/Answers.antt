use Rattle.std.proofs.Common.{◌≡◌, ◌∙◌, List, ℕ, All, ap, subst, sym}
use Rattle.std.proofs.lemmas.List.Elements.{All-push}
use Rattle.ab_msg.specs.Packets.{IsSendable, Packet}
use Rattle.ab_party.specs.Credentials.{sealed_by}
use Rattle.ab_party.proofs.SealLemmas.{can_send}
use Rattle.ab_party.proofs.credentials.Credentials.add.Goals as goal

pub returns-clause-sendable : goal.returns-clause-sendable
returns-clause-sendable c =
    let ring = c.args.self.now.ring in
    let out = c.args.out.now in
    let is = c.requires.ring in
    let one : IsSendable c.in_ok-packet.packet =
    subst IsSendable (sym c.in_ok-packet.ensures) (can_send ring out is (c.drafts_are_sealed_as_messages.ensures.size ring out is.bounds is.party c.requires.draft.draft) c.requires.to) in
    subst (All IsSendable) (sym c.in_ok-push.ensures.items) (All-push IsSendable c.args.packets.now.items c.in_ok-packet.packet c.requires.sendable one)
