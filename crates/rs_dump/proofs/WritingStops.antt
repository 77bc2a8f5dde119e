-- What stops the writing of lines is no refusal but want of memory.
use Rattle.std.proofs.Common.{◌≡◌, ◌∙◌, inl, inr, sym}
use Rattle.rs_dump.specs.Written.{StopsWriting}
use Rattle.rs_dump.specs.declared.stop.Stop.{Stop}
use Rattle.rs_dump.specs.declared.stop.Stop.TheVariants.{Refused, Stream}
use Rattle.rs_protocol.specs.declared.stream.Fault.TheVariants.{Write}
use Rattle.rs_refusal.specs.declared.refusal.Refusal.{Refusal}
use Rattle.rs_refusal.specs.declared.refusal.Refusal.TheVariants.{OutOfMemory}

pub refused_writing : (stop : Stop) (why : Refusal) → StopsWriting stop → stop ≡ Refused why → why ≡ OutOfMemory
refused_writing stop why (inl memory) is = let same : Refused why ≡ Refused OutOfMemory = sym is ∙ memory in cc
refused_writing stop why (inr fault) is = absurd (let wrong : Refused why ≡ Stream Write = sym is ∙ fault in cc)
