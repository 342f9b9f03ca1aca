-- The entries with the long store under one plan. Assumes nothing.
use Rattle.rules.specs.Frame.{Frame}
use Rattle.longstore.specs.Steps.{frame_start, frame_step}
use Rattle.longstore.specs.Receive.{frame_listen, frame_receive}
use Rattle.longstore.specs.Run.{LongEntries}

-- under an accepted plan whose frame is F
abbrev pub long_frame : Frame → LongEntries
long_frame F = record { start = frame_start F; send = frame_step F; listen = frame_listen F; hear = frame_receive F }
