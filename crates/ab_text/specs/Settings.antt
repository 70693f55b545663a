-- What the head of a schedule sets up, as plain values.
use Rattle.std.specs.Prelude.{ℕ, List, []}
use Rattle.ab_num.specs.declared.party.Party.{Party}
use Rattle.ab_text.specs.declared.head_lines.HeadLines.{HeadLines}
use Rattle.ab_text.specs.Heads.{Script}

-- with these faulty parties, and no events
abbrev pub set_up : HeadLines → List (Party × ℕ) → Script
set_up s faulty = record {
  f = s.cluster.f;
  clients = s.cluster.clients;
  plan = s.cluster.plan;
  service = s.service;
  lms = s.lms;
  every = s.cluster.every;
  seed = s.seed;
  faulty = faulty;
  events = [];
}
