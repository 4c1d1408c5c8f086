-- Y and SE are those of the memory's estimate, and the two codewords say of the byte that COMPRESS gave what their places say.
use mir.Val.{bool_byte}
use Rattle.std.proofs.Common.{◌≡◌, Bool, true, false, not, refl}
use Rattle.words.specs.Notation.{pick}
use Rattle.quantizer.proofs.Halves.{width_of}
use Rattle.engine.proofs.Estimates.{y_range, se_word}
use Rattle.sample.specs.Decode.{decode_of}
use Rattle.sample.specs.Pcm.{play_of}
use Rattle.sample.proofs.Adjusting.{requantized_codeword, moved_by_places, disagreement_is}
use Rattle.sample.proofs.pcm.decode_byte.Goals as goal

-- what is counted of a test that holds, and of one that does not
counted : (t : Bool) → bool_byte (not t) ≡ pick t 0 1
counted true = refl
counted false = refl

pub requantized-j-requires : goal.requantized-j-requires
unfolding decode_of
requantized-j-requires c =
    rw c.decode_level-d.ensures (y_range c.args.m c.requires.0, se_word c.args.m)

pub adjusted-sd-requires : goal.adjusted-sd-requires
adjusted-sd-requires c =
    (rw c.requantized-j.ensures (requantized_codeword _ _ _ _ _ (width_of c.requires.2)), c.requires.2)

pub returns : goal.returns
unfolding play_of
returns c =
    let width = width_of c.requires.2 in
    rw (c.from.ensures, counted _, c.adjusted-sd.ensures, c.requantized-j.ensures, disagreement_is _ _ _ _ _ width c.requires.2, moved_by_places _ _ _ _ _ width _, c.compress-sp.ensures, c.decode_level-d.ensures)
