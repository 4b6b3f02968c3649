use Rattle.std.proofs.Common.{◌≡◌, ◌≢◌, ℕ, Result, Ok, Err, OnOk, is_ok, if◌then◌else◌}
use Rattle.commands.proofs.output.refuse_memory.Goals as goal

status_is : {T E : Type 0} (written : Result T E) (exit : ℕ) → exit ≡ (if is_ok written then 3 else 1) → exit ≢ 1
    → exit ≡ 3
status_is (Ok x) exit exit_is some = exit_is
status_is (Err e) exit exit_is some = absurd (some exit_is)

text_is : {T E Fact : Type 0} (written : Result T E) (exit : ℕ) → OnOk written Fact
    → exit ≡ (if is_ok written then 3 else 1) → exit ≢ 1 → Fact
text_is (Ok x) exit text exit_is some = text
text_is (Err e) exit text exit_is some = absurd (some exit_is)

pub returns-clause-status : goal.returns-clause-status
returns-clause-status g c = status_is _ _ c.status_after.ensures

pub returns-clause-text : goal.returns-clause-text
returns-clause-text g c = text_is _ _ c.write_refusal.ensures c.status_after.ensures
