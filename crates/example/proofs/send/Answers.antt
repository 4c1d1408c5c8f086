-- What encode and drop_planes report as written fits the buffer that they were lent, so that part of it can be taken.
use mathlib.Core.List.{List}
use Rattle.std.proofs.Common.{◌≡◌, ℕ, ◌≤◌, Ok, Result, arith, length, length-take}
use Rattle.state.specs.declared.State.{State}
use Rattle.state.specs.declared.answer.Answer.{Answer}
use Rattle.replies.specs.declared.Refusal.{Refusal}
use Rattle.encode.proofs.Answers.{Answers, answers_room}
use Rattle.drop_planes.specs.Drop.{Drops}
use Rattle.drop_planes.proofs.Answers.{drop_room}
use Rattle.example.proofs.send.Goals as goal

encoded_fits : {s : State} {law e width : ℕ} {samples before after : List ℕ} {r : Answer ℕ} {n : ℕ} → Answers s law e width samples before after r → r.done ≡ Ok n → n ≤ length before
encoded_fits {r = r} answered is = rw is at (answers_room _ _ _ _ _ _ _ r answered)

dropped_fits : {frame before after : List ℕ} {w : ℕ} {r : Result ℕ Refusal} {m : ℕ} → Drops frame w before after r → r ≡ Ok m → m ≤ length before
dropped_fits drops is = rw (rw is at drops.octets) (drop_room _ _ _)

pub slice_bounds-radio-end : goal.slice_bounds-radio-end
slice_bounds-radio-end g c = rw c.encode-sent.auto.out (encoded_fits c.encode-sent.ensures c.in_ok-n.was)

pub slice_bounds-drop_planes-end : goal.slice_bounds-drop_planes-end
slice_bounds-drop_planes-end g c =
    let within : c.in_ok-n.n ≤ length c.encode-sent.new.out = rw c.encode-sent.auto.out (encoded_fits c.encode-sent.ensures c.in_ok-n.was) in
    simp length-take (omega arith)

pub slice_bounds-thin-end : goal.slice_bounds-thin-end
slice_bounds-thin-end g c = rw c.drop_planes.auto.out (dropped_fits c.drop_planes.ensures c.in_ok-m.was)

pub slice_bounds-decode-end : goal.slice_bounds-decode-end
slice_bounds-decode-end g c =
    let within : c.in_ok-m.m ≤ length c.drop_planes.new.out = rw c.drop_planes.auto.out (dropped_fits c.drop_planes.ensures c.in_ok-m.was) in
    simp length-take (omega arith)
