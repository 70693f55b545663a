-- Names of messages.
use Rattle.std.specs.Prelude.{ℕ, List, codes, ◌==◌, if◌then◌else◌}

-- the name of the message with this code
abbrev pub message_name : ℕ → List ℕ
message_name code =
    if code == 1 then codes "REQ" else
    (if code == 2 then codes "ORDER" else
    (if code == 3 then codes "RESP" else
    (if code == 4 then codes "CHAIN" else
    (if code == 5 then codes "PANIC" else
    (if code == 6 then codes "ABORT" else
    (if code == 7 then codes "INIT" else
    (if code == 8 then codes "PRE-PREPARE" else
    (if code == 9 then codes "PREPARE" else
    (if code == 10 then codes "COMMIT" else
    (if code == 11 then codes "VIEW-CHANGE" else
    (if code == 12 then codes "NEW-VIEW" else
    (if code == 13 then codes "CHECKPOINT" else
    (if code == 14 then codes "LOCAL-COMMIT" else
    (if code == 15 then codes "SPEC" else
    (if code == 16 then codes "CERT" else codes "?")))))))))))))))
