use Rattle.ab_client.proofs.TimerLemmas.{call_counted, still_counted, all_counted}
use Rattle.ab_client.proofs.laws.timers_count.Goals as goal

pub returns : goal.returns
returns c = record { call = call_counted; still = still_counted; total = all_counted }
