-- The frame is written of the codewords of all levels, which have room among the codewords of the longest frame.
use mathlib.Core.Path.{sym, ◌∙◌}
use native.Mathlib.Omega.{arith}
use Rattle.frame.specs.Header.{most_groups}
use Rattle.levels.specs.Levels.{encoded_state}
use Rattle.levels.proofs.Fitness.{encodable_few}
use Rattle.levels.proofs.Encoding.{codewords_length, codewords_taken}
use Rattle.levels.proofs.encode_levels.Goals as goal

pub encode_all-memory-requires : goal.encode_all-memory-requires
unfolding most_groups
encode_all-memory-requires c =
    let able = c.requires.0 in
    (able.range.memory, rw (← able.core) able.header.pair, encodable_few able, c.requires.1)

pub slice_bounds-codewords-end : goal.slice_bounds-codewords-end
unfolding most_groups
slice_bounds-codewords-end c =
    let few = encodable_few c.requires.0 in
    omega (arith, c.encode_all-memory.auto.codewords)

pub slice_bounds-write_frame-end : goal.slice_bounds-write_frame-end
slice_bounds-write_frame-end c =
    sym (rw (codewords_taken _ _ _ _ c.encode_all-memory.ensures) (codewords_length _ _ _ _))

pub write_frame-requires : goal.write_frame-requires
write_frame-requires c =
    let able = c.requires.0 in
    let taken = codewords_taken _ _ _ _ c.encode_all-memory.ensures in
    let sized = codewords_length c.args.s.core c.args.h.width c.args.s.memory c.args.levels.now in
    (able.header, rw (taken, sized) (omega (arith, able.whole)), able.space)

pub returns : goal.returns
unfolding encoded_state
returns c =
    let coded = c.encode_all-memory.ensures in
    record {
      state = rw (c.moved_on.ensures, coded.memory, c.number_after.ensures);
      out = c.write_frame.ensures ∙ rw (codewords_taken _ _ _ _ coded);
    }
