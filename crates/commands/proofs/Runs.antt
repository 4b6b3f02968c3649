-- The state of the writers after a run.
use Rattle.std.proofs.Common.{◌≡◌, ◌≢◌, ℕ, List, Option, Result, Ok, Err, OnOk, is_ok, if◌then◌else◌}
use Rattle.std.specs.Io.KnownBytes.{Appends}
use Rattle.std.proofs.KnownBytes.{Appends-nil}
use Rattle.commands.specs.Replies.{line, refused, IsOnly, IsReply, IsRun, line_text, refusal_text}

-- a reply is written as its line
pub line_run : {T E : Type 0} (command : List (List ℕ)) (out out' err : Option (List ℕ))
    (bits digits status exit : ℕ) (written : Result T E) → IsOnly (IsReply command) (line bits digits status)
    → OnOk written (Appends out out' (line_text bits digits status)) → exit ≡ (if is_ok written then 0 else 1)
    → exit ≢ 1 → IsRun command out out' err err exit
line_run command out out' err bits digits status exit (Ok x) reply text exit_is some = record {
  reply = line bits digits status;
  is_reply = reply;
  wrote_out = text;
  wrote_err = Appends-nil err;
  status_is = exit_is;
}
line_run command out out' err bits digits status exit (Err e) reply text exit_is some = absurd (some exit_is)

-- a refusal is written as its word
pub refusal_run : {T E : Type 0} (command : List (List ℕ)) (out err err' : Option (List ℕ)) (word : List ℕ)
    (exit : ℕ) (written : Result T E)
    → IsOnly (IsReply command) (refused word) → OnOk written (Appends err err' (refusal_text word))
    → exit ≡ (if is_ok written then 2 else 1) → exit ≢ 1 → IsRun command out out err err' exit
refusal_run command out err err' word exit (Ok x) reply text exit_is some = record {
  reply = refused word;
  is_reply = reply;
  wrote_out = Appends-nil out;
  wrote_err = text;
  status_is = exit_is;
}
refusal_run command out err err' word exit (Err e) reply text exit_is some = absurd (some exit_is)
