-- What comes of CSV that is written as a table.
use Rattle.std.specs.Prelude.{◌≡◌, ℕ, List, Option, Some, IfSome, codes, unwrap_or}
use Rattle.std.specs.Io.KnownBytes.{Appends, Keeps}
use Rattle.rs_command_line.specs.Separator.{separator_in}
use Rattle.rs_csv_table.specs.Fields.{Record}
use Rattle.rs_csv_table.specs.Tables.{IsTableOf, ReadsAll}
use Rattle.rs_server.specs.declared.report.TheConstants.{MISUSE, SUCCESS}

-- The table of all records is written, and where it is known what the input had, they are its.
pub record AlignsAll (separator : Option (List ℕ)) (unread before after : Option (List ℕ)) : Type 0 where
  pub byte : ℕ
  pub is : separator_in (unwrap_or separator (codes ",")) ≡ Some byte
  pub records : List Record
  pub text : List ℕ
  pub table : IsTableOf records text
  pub put : Appends before after text
  pub all : IfSome unread (λ bytes. ReadsAll byte bytes records)

-- with 0 all of it is written, and with 2 nothing is read or written
pub record AlignsInput (separator : Option (List ℕ)) (status : ℕ) (unread unread_now before after : Option (List ℕ)) : Type 0 where
  pub done : status ≡ SUCCESS → AlignsAll separator unread before after
  pub misused : status ≡ MISUSE → Keeps unread unread_now × Keeps before after
