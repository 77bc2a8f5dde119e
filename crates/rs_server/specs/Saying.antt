-- What the program says by itself: of a failure on its errors stream, and that it listens.
use Rattle.std.specs.Prelude.{◌≡◌, ℕ, List, ◌++◌, Option, Some, None, codes, decimal}
use Rattle.std.specs.Io.KnownBytes.{Appends}
use Rattle.rs_protocol.specs.declared.stream.Fault.TheVariants.{Read, Write}
use Rattle.rs_refusal.specs.declared.refusal.Refusal.{Refusal}
use Rattle.rs_refusal.specs.Refusal.{number_of, words_of}
use Rattle.rs_server.specs.declared.reasons.Reason.{Reason}
use Rattle.rs_server.specs.declared.reasons.Reason.TheVariants.{Device, Folder, InUse, NoAddress, NoFile, NoFolder, NotEmpty, NoPermission}
use Rattle.rs_server.specs.declared.reasons.Reason.TheVariants as reasons
use Rattle.rs_server.specs.declared.report.Failure.{Failure}
use Rattle.rs_server.specs.declared.report.Failure.TheVariants.{CannotAccept, CannotListen, CannotOpen, FileExists, Refused, Stream}

-- `roadseg: ERR n words` and an LF
abbrev pub refusal_line : Refusal → List ℕ
refusal_line refusal = codes "roadseg: ERR " ++ decimal (number_of refusal) ++ codes " " ++ words_of refusal ++ codes "\n"

abbrev pub reason_text : Reason → List ℕ
reason_text NoFile = codes "no such file"
reason_text NoFolder = codes "no such folder"
reason_text NoAddress = codes "no address of this machine"
reason_text InUse = codes "in use by another program"
reason_text NoPermission = codes "no permission"
reason_text Folder = codes "a folder"
reason_text Device = codes "a device, a pipe or a socket"
reason_text NotEmpty = codes "there already, and not empty"
reason_text reasons.Refused = codes "no permission, or refused by the system"

-- `roadseg: `, the file or the address, and what is wrong with it
abbrev pub place_line : List ℕ → List ℕ → List ℕ
place_line place words = codes "roadseg: " ++ place ++ codes ": " ++ words ++ codes "\n"

-- `roadseg: ` and what failed, and an LF; of a place a second line
abbrev pub failure_line : Failure → List ℕ
failure_line (Refused refusal) = refusal_line refusal
failure_line FileExists = codes "roadseg: file exists\n"
failure_line (CannotOpen file why) = codes "roadseg: cannot open file\n" ++ place_line file.now (reason_text why)
failure_line (CannotListen address why) = codes "roadseg: cannot listen\n" ++ place_line address.now (reason_text why)
failure_line CannotAccept = codes "roadseg: cannot accept\n"
failure_line (Stream Read) = codes "roadseg: read fault\n"
failure_line (Stream Write) = codes "roadseg: write fault\n"

-- that `serve` listens, and at which port where the system chose that
abbrev pub listening_text : Option ℕ → List ℕ
listening_text None = codes "listening\n"
listening_text (Some port) = codes "listening\nport " ++ decimal port ++ codes "\n"

-- a writer has grown by the text, or by a front of it
pub record SaysFront (text : List ℕ) (before after : Option (List ℕ)) : Type 0 where
  pub front : List ℕ
  pub lost : List ℕ
  pub whole : text ≡ front ++ lost
  pub put : Appends before after front
