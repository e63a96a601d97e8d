-- Characters that nobody sees, by their properties in Unicode.
use Rattle.std.specs.Prelude.{ℕ, Bool, true}
use Rattle.ucd_category.specs.GeneralCategory.{general_category}
use Rattle.ucd_category.specs.declared.GeneralCategory.{GeneralCategory}
use Rattle.ucd_category.specs.declared.GeneralCategory.TheVariants.{Control, Format, LineSeparator, ParagraphSeparator}
use Rattle.ucd_derived.specs.Binary.{is_default_ignorable_code_point}

-- whether a character of this category has no picture, or else whether it need not be drawn
abbrev pub has_no_picture : GeneralCategory → Bool → Bool
has_no_picture Control ignorable = true
has_no_picture Format ignorable = true
has_no_picture LineSeparator ignorable = true
has_no_picture ParagraphSeparator ignorable = true
has_no_picture other ignorable = ignorable

-- whether a character has no picture of its own
abbrev pub is_unseen : ℕ → Bool
is_unseen c = has_no_picture (general_category c) (is_default_ignorable_code_point c)
