-- One sample at the ends of a run: what the encoder makes of an octet, what the decoder makes of a codeword, and the state behind it. A sequence has no
-- frames, so that a sample moves a state's memory on, and nothing else.
use Rattle.std.specs.Prelude.{ℕ, Option}
use Rattle.state.specs.declared.memory.Memory.{Memory}
use Rattle.state.specs.declared.State.{State}
use Rattle.sample.specs.declared.level.Encoded.{Encoded}
use Rattle.sample.specs.declared.end.Heard.{Heard}
use Rattle.sample.specs.Encode.{encode_of}
use Rattle.sample.specs.End.{pcm, level_of}
use Rattle.sample.specs.Pcm.{play_of}
use Rattle.text.specs.Law.{law_number}
use Rattle.vectors.specs.declared.runs.Run.{Run}
use Rattle.vectors.specs.declared.ends.Sample.{Sample}
use Rattle.vectors.specs.Laws.{law_sent, law_heard}

abbrev pub coded_of : Run → State → ℕ → Encoded
coded_of run encoder octet = encode_of run.core run.width encoder.memory (level_of (pcm (law_number (law_sent run.laws))) octet)

abbrev pub heard_of : Run → State → ℕ → Heard ℕ
heard_of run decoder codeword = play_of (law_number (law_heard run.laws)) run.core run.width decoder.memory codeword

abbrev pub moved : State → Memory → State
moved s m = record { memory = m; core = s.core; number = s.number }

abbrev pub sample_of : Run → State → Option ℕ → ℕ → Sample
sample_of run decoder input codeword =
    record {
      input = input;
      codeword = codeword;
      octet = (heard_of run decoder codeword).sample;
      disagreement = (heard_of run decoder codeword).disagreement;
      decoder = moved decoder (heard_of run decoder codeword).memory;
    }
