-- Soundness is kept: a frame that is written with a sound header is sound, and so is a sound frame thinned to a width that it allows.
use mathlib.Core.Path.{◌≡◌}
use mathlib.Core.List.{List}
use Prim.Native.Nat.{ℕ, ◌*◌, ◌≤◌, ◌<◌}
use native.Mathlib.Nat.{mul-le-mul_right}
use native.Mathlib.Omega.{arith}
use lib.ListN.{length, length-append, length-take, length-drop}
use Rattle.words.specs.Within.{Within}
use Rattle.frame.specs.declared.header.Header.{Header}
use Rattle.frame.specs.Header.{header_of, due_length}
use Rattle.frame.specs.Planes.{frame_of}
use Rattle.frame.specs.Read.{body, narrowed, thinned}
use Rattle.frame.specs.Sound.{SoundHeader, Sound}
use Rattle.frame.proofs.Headers.{Bears, fields_there, octets_length, sound_fields, written_header, thinned_header}
use Rattle.frame.proofs.Sizes.{written_length}

sound_whole : {h : Header} {n : ℕ} → SoundHeader h → n ≡ due_length h → Sound h n
sound_whole {h} s whole = record { long = omega (arith, fields_there h.edition); header = s; whole = whole }

pub written_sound : {h : Header} → SoundHeader h → Bears h → (codewords : List ℕ) → Sound (header_of (frame_of h codewords)) (length (frame_of h codewords))
written_sound {h} s bears codewords = rw (written_header (sound_fields s bears) codewords) (sound_whole s (written_length h codewords))

pub narrowed_sound : {h : Header} {w : ℕ} → SoundHeader h → Within h.core h.width w → SoundHeader (narrowed w h)
narrowed_sound s width =
    record { known = s.known; pair = record { cores = s.pair.cores; widths = record { low = width.low; high = omega (arith, width.high, s.pair.widths.high) } }; count = s.count }

module _ (frame : List ℕ) (s : Sound (header_of frame) (length frame)) {w : ℕ} where
  pub thinned_length : w ≤ (header_of frame).width → length (thinned w frame) ≡ due_length (narrowed w (header_of frame))
  unfolding thinned body
  thinned_length narrow =
      let whole = s.whole in
      let fewer : w * (header_of frame).groups ≤ (header_of frame).width * (header_of frame).groups = mul-le-mul_right (header_of frame).groups narrow in
      simp (length-append, length-take, length-drop, octets_length) (omega arith)

  pub thinned_sound : Within (header_of frame).core (header_of frame).width w → Sound (header_of (thinned w frame)) (length (thinned w frame))
  thinned_sound width =
      let narrow : w < 8 = omega (arith, width.high, s.header.pair.widths.high) in
      rw (thinned_header narrow frame) (sound_whole (narrowed_sound s.header width) (thinned_length width.high))
