use mathlib.Core.Path.{◌≡◌, sym}
use Prim.Native.Nat.{◌+◌}
use native.Mathlib.Omega.{arith}
use lib.ListN.{length, drop, length-drop}
use Rattle.lists.proofs.Rest.{rest_lent}
use Rattle.frame.specs.Header.{header_length}
use Rattle.frame.specs.Read.{body, received}
use Rattle.codewords.proofs.Fitness.{decode_fits}
use Rattle.codewords.proofs.Answers.{codewords_done}
use Rattle.codewords.proofs.decode_samples.Goals as goal

pub slice_bounds-decode_into-count : goal.slice_bounds-decode_into-count
slice_bounds-decode_into-count g c =
    let able = (decode_fits _ _ _ _ _ c.in-Ok.ensures).1 in
    rw c.header_length.ensures (omega (arith, able.sound.whole))

pub slice_bounds-decode_into-start : goal.slice_bounds-decode_into-start
slice_bounds-decode_into-start g c =
    let able = (decode_fits _ _ _ _ _ c.in-Ok.ensures).1 in
    omega (arith, c.header_length.ensures, able.sound.whole)

pub decode_into-requires : goal.decode_into-requires
decode_into-requires g c =
    let able = (decode_fits _ _ _ _ _ c.in-Ok.ensures).1 in
    let n = header_length c.read_header-h.result.edition in
    let f = c.args.frame.now in
    let sized : n + length (drop n f) ≡ length f = omega (arith, length-drop n f, able.sound.whole) in
    rw (c.header_length.ensures, rest_lent f n, sized) able

pub returns-in-Ok : goal.returns-in-Ok
unfolding body received
returns-in-Ok g c =
    let f = c.args.frame.now in
    let n = header_length c.read_header-h.result.edition in
    let zero = rw (c.is_known.ensures, c.read_header-h.ensures) at (sym c.in-Ok.ensures) in
    let d = rw (c.header_length.ensures, rest_lent f n, c.read_header-h.ensures) at c.decode_into.ensures in
    codewords_done _ _ _ _ _ _ zero d
