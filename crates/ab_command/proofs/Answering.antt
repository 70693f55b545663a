-- A status that has its cause has all that is said of the number.
use Rattle.std.proofs.Common.{◌≡◌, ◌⊎◌, ℕ, List, Result, sym, ◌∙◌, subst, inl, inr}
use Rattle.ab_text.specs.declared.fault.TextFault.{TextFault}
use Rattle.ab_text.specs.Heads.{Script}
use Rattle.ab_text.specs.Schedules.{ReadsText}
use Rattle.ab_command.specs.declared.status.Status.{Status}
use Rattle.ab_command.specs.Texts.{code_of}
use Rattle.ab_command.specs.Calls.{Call}
use Rattle.ab_command.specs.Statuses.{StatusCause, HasCauseOf, IsServedOut, IsToldWhole, IsVerdict, Passes}
use Rattle.ab_command.proofs.StatusLemmas.{clear_status, keys_status, storm_status}
use Rattle.ab_command.proofs.NodeStatuses.{node_status}
use Rattle.ab_command.proofs.AuditStatuses.{audit_status}

-- the number of a status that has its cause
pub answers : ((text : List ℕ) (r q : Result Script TextFault) → ReadsText text r → ReadsText text q → r ≡ q)
    → (n : ℕ) (c : Call) (s : Status) → n ≡ code_of s → StatusCause s c → HasCauseOf n c
answers one n c s code cause = record {
  status = s;
  code = code;
  cause = cause;
  complete = λ clear. elim (clear_status one c clear s cause) [
    | inl premise ↦ inl (code ∙ premise)
    | inr nine ↦ inr (code ∙ nine)
  ];
  keys = λ k clear. elim (keys_status c k clear s cause) [
    | inl whole ↦ inl (code ∙ whole.0, whole.1)
    | inr nine ↦ inr (code ∙ nine)
  ];
  node = λ k clear. subst (λ (m : ℕ). IsServedOut m clear.node c) (sym code) (node_status c k clear s cause);
  audit = λ clear. subst (λ (m : ℕ). IsVerdict m clear.audit) (sym code) (audit_status c clear s cause);
  storm = λ k clear. subst (λ (m : ℕ). IsToldWhole m k c ⊎ ((Passes k × (m ≡ 7)) ⊎ (m ≡ 9))) (sym code) (storm_status c k clear s cause);
}
