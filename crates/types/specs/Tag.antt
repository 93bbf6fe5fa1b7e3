-- A tag on paper (ASHRAE 135, 20.2.1), and the map from the program's tags to it.
-- Assumes nothing.
use Rattle.std.specs.Prelude.{ℕ}
use Rattle.types.specs.declared.tag.ApplicationTagNumber.{ApplicationTagNumber}
use Rattle.types.specs.declared.tag.ApplicationTagNumber.TheVariants as a
use Rattle.types.specs.declared.tag.TagNumber.{TagNumber}
use Rattle.types.specs.declared.tag.TagNumber.TheVariants as n
use Rattle.types.specs.declared.tag.Tag as program

-- a tag's class and number; openings and closings are of context class
pub data Number : Type 0 where
  application : ℕ → Number
  context : ℕ → Number
  opening : ℕ → Number
  closing : ℕ → Number

-- the class by a number, which is ours: the standard has a bit for it, and tells openings and closings by the low bits (20.2.1.1, 20.2.1.3.2)
abbrev pub class_of : Number → ℕ
class_of (application n) = 1
class_of (context n) = 2
class_of (opening n) = 3
class_of (closing n) = 4

-- the number that stands in a tag, whatever its class
abbrev pub number_in : Number → ℕ
number_in (application n) = n
number_in (context n) = n
number_in (opening n) = n
number_in (closing n) = n

pub record Tag : Type 0 where
  pub number : Number
  pub value : ℕ

abbrev pub tag : Number → ℕ → Tag
tag n v = record { number = n; value = v }

-- the application tags' numbers (20.2.1.4)
abbrev pub application_of : ApplicationTagNumber → ℕ
application_of a.Null = 0
application_of a.Boolean = 1
application_of a.UnsignedInt = 2
application_of a.SignedInt = 3
application_of a.Real = 4
application_of a.Double = 5
application_of a.OctetString = 6
application_of a.CharacterString = 7
application_of a.BitString = 8
application_of a.Enumerated = 9
application_of a.Date = 10
application_of a.Time = 11
application_of a.ObjectId = 12
application_of a.Reserve1 = 13
application_of a.Reserve2 = 14
application_of a.Reserve3 = 15

abbrev pub number_of : TagNumber → Number
number_of (n.Application x) = application (application_of x)
number_of (n.ContextSpecific k) = context k
number_of (n.ContextSpecificOpening k) = opening k
number_of (n.ContextSpecificClosing k) = closing k

-- a tag of the program, on paper
abbrev pub tag_of : program.Tag → Tag
tag_of t = tag (number_of t.number) t.value
