-- Why a reply is not written whole. Own.
use Rattle.reply.specs.declared.stop.Stop.{Stop}
use Rattle.reply.specs.declared.stop.Stop.TheVariants as stops
use Rattle.reply.specs.declared.stop.Broken.{Broken}
use Rattle.reply.specs.declared.stop.Broken.TheVariants.{Write, Memory}

-- a text that is not written whole stops the reply for the same cause
abbrev pub stop_by : Broken → Stop
stop_by Write = stops.Write
stop_by Memory = stops.Memory
