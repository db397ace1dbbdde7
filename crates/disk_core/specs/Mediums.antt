-- What a medium in memory has held.
use Rattle.disk_core.specs.States.{Story}
use Rattle.disk_core.specs.declared.medium.Medium.{Medium}

abbrev pub story_of : Medium → Story
story_of medium = record {
  now = record { bytes = medium.bytes.items; least = medium.least; most = medium.most; written = medium.trail.history.written };
  past = medium.trail.history.past;
}
