-- The laws of this crate: of results told in numbers (`Told`), of bytes as digits (`Digits`), of the standard text (`Standard`), of lines (`LineLaws`), of what signs count
-- (`Values`), of bytes read and stored one after another (`Bytes`), of the line that stands at an index (`Forms`, `Judging`,
-- `WholeLines`), of cells (`Taken`) and of a text that is read line by line (`TextLaws`). `RecordLaws` and `ReadLaws` are for the
-- theorems: what was written is read back (`RoundTrip`), a text that is read covers every address once (`Covered`), every good text is
-- read and no other (`Goods`), its records may stand in any order (`Orders`), and the rest of a long text changes no answer (`Cut`).
pub mod Told
pub mod Digits
pub mod Standard
pub mod LineLaws
pub mod Values
pub mod Bytes
pub mod Forms
pub mod Judging
pub mod WholeLines
pub mod Taken
pub mod TextLaws
pub mod RecordLaws
pub mod ReadLaws
pub mod RoundTrip
pub mod Covered
pub mod Goods
pub mod Orders
pub mod Cut
