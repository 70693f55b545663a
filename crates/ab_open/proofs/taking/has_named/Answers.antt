use Rattle.std.proofs.Common.{sym, ◌∙◌}
use Rattle.std.specs.Option.{option_map}
use Rattle.ab_keys.specs.Keys.{is_party}
use Rattle.ab_content.specs.Views.{content, request, zcert}
use Rattle.ab_wire.specs.Views.{aborts, chain_tags, offered, proof, proofs, reply_of, signed, tags}
use Rattle.ab_open.proofs.NamedLemmas.{req-names, order-names, resp-names, chain-names, panic-names, abort-names, init-names, pre_prepare-names, prepare-names, commit-names, change-names, new_view-names, checkpoint-names, local_commit-names, spec-names, cert-names}
use Rattle.ab_open.proofs.taking.has_named.Goals as goal

pub returns-in-Req : goal.returns-in-Req
returns-in-Req c = (let h = rw c.in-Req.is at c.requires.of_grammar in rw c.in-Req.is (c.has_parties.ensures ∙ sym (req-names (is_party c.args.k.now.f c.args.k.now.clients) c.args.k.now.f c.args.me (content c.in-Req.content) (record { items = tags c.in-Req.tags }) h.0)))

pub returns-in-Order : goal.returns-in-Order
returns-in-Order c = (let h = rw c.in-Order.is at c.requires.of_grammar in rw c.in-Order.is (c.has_parties-in-Order.ensures ∙ sym (order-names (is_party c.args.k.now.f c.args.k.now.clients) c.args.k.now.f c.args.me (content c.in-Order.content) c.in-Order.client_tag.now c.in-Order.tag.now h.0)))

pub returns-in-Resp : goal.returns-in-Resp
returns-in-Resp c = rw c.in-Resp.is (c.has_parties-in-Resp.ensures ∙ sym (resp-names (is_party c.args.k.now.f c.args.k.now.clients) c.args.k.now.f c.args.me (content c.in-Resp.content) c.in-Resp.tag.now))

pub returns-in-Panic : goal.returns-in-Panic
returns-in-Panic c = rw c.in-Panic.is (c.has_parties-in-Panic.ensures ∙ sym (panic-names (is_party c.args.k.now.f c.args.k.now.clients) c.args.k.now.f c.args.me (content c.in-Panic.content) c.in-Panic.tag.now))

pub returns-in-Commit : goal.returns-in-Commit
returns-in-Commit c = rw c.in-Commit.is (c.has_parties-in-Commit.ensures ∙ sym (commit-names (is_party c.args.k.now.f c.args.k.now.clients) c.args.k.now.f c.args.me (content c.in-Commit.content) c.in-Commit.tag.now))

pub returns-in-Chain : goal.returns-in-Chain
returns-in-Chain c = rw c.in-Chain.is (c.has_client.ensures ∙ sym (chain-names c.args.k.now.f c.args.k.now.clients c.args.me c.in-Chain.instance (request c.in-Chain.request) c.in-Chain.n c.in-Chain.d.now (option_map reply_of c.in-Chain.reply) (chain_tags c.in-Chain.tags)))

pub returns-in-Abort : goal.returns-in-Abort
returns-in-Abort c = rw c.in-Abort.is (c.has_abort.ensures ∙ sym (abort-names (is_party c.args.k.now.f c.args.k.now.clients) c.args.k.now.f c.args.me (signed c.in-Abort.abort)))

pub returns-in-Prepare : goal.returns-in-Prepare
returns-in-Prepare c = rw c.in-Prepare.is (c.has_parties-in-Prepare.ensures ∙ sym (prepare-names (is_party c.args.k.now.f c.args.k.now.clients) c.args.k.now.f c.args.me (signed c.in-Prepare.prepare)))

pub returns-in-Init : goal.returns-in-Init
returns-in-Init c = rw c.in-Init.is (c.has_cert.ensures ∙ sym (init-names (is_party c.args.k.now.f c.args.k.now.clients) c.args.k.now.f c.args.me (aborts c.in-Init.cert)))

pub returns-in-PrePrepare : goal.returns-in-PrePrepare
returns-in-PrePrepare c = rw c.in-PrePrepare.is (c.has_value.ensures ∙ sym (pre_prepare-names (is_party c.args.k.now.f c.args.k.now.clients) c.args.k.now.f c.args.me (content c.in-PrePrepare.content) c.in-PrePrepare.tag.now (offered c.in-PrePrepare.offer)))

pub returns-in-ViewChange : goal.returns-in-ViewChange
returns-in-ViewChange c = (let h = rw c.in-ViewChange.is at c.requires.of_grammar in rw c.in-ViewChange.is (c.has_change.ensures ∙ sym (change-names (is_party c.args.k.now.f c.args.k.now.clients) c.args.k.now.f c.args.me (proof c.in-ViewChange.change) h)))

pub returns-in-NewView : goal.returns-in-NewView
returns-in-NewView c = (let h = rw c.in-NewView.is at c.requires.of_grammar in rw c.in-NewView.is (c.has_new_view.ensures ∙ sym (new_view-names (is_party c.args.k.now.f c.args.k.now.clients) c.args.k.now.f c.args.me (content c.in-NewView.content) c.in-NewView.tag.now (proofs c.in-NewView.changes) h.1.1.1)))

pub returns-in-Checkpoint : goal.returns-in-Checkpoint
returns-in-Checkpoint c = rw c.in-Checkpoint.is (c.has_parties-in-Checkpoint.ensures ∙ sym (checkpoint-names (is_party c.args.k.now.f c.args.k.now.clients) c.args.k.now.f c.args.me (content c.in-Checkpoint.content) c.in-Checkpoint.tag.now))

pub returns-in-LocalCommit : goal.returns-in-LocalCommit
returns-in-LocalCommit c = rw c.in-LocalCommit.is (c.has_parties-in-LocalCommit.ensures ∙ sym (local_commit-names (is_party c.args.k.now.f c.args.k.now.clients) c.args.k.now.f c.args.me (content c.in-LocalCommit.content) c.in-LocalCommit.tag.now))

pub returns-in-Spec : goal.returns-in-Spec
returns-in-Spec c = rw c.in-Spec.is (c.has_parties-in-Spec.ensures ∙ sym (spec-names (is_party c.args.k.now.f c.args.k.now.clients) c.args.k.now.f c.args.me (signed c.in-Spec.spec)))

pub returns-in-Cert : goal.returns-in-Cert
returns-in-Cert c = rw c.in-Cert.is (c.has_zcert.ensures ∙ sym (cert-names (is_party c.args.k.now.f c.args.k.now.clients) c.args.k.now.f c.args.me c.in-Cert.instance (zcert c.in-Cert.zcert)))
