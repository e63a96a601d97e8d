-- A page: its data, and around them the texts of a template, which are the same on every page.
use Rattle.std.specs.Prelude.{ℕ, ◌≡◌, ◌==◌, false, if◌then◌else◌, List, [], ◌∷◌, ◌++◌, codes}
use Rattle.std.specs.List.{list_any, flat_map}
use Rattle.std.specs.Fmt.{decimal}
use Rattle.lab_template.specs.Limits.{most_whole, most_ends, most_end_bytes}
use Rattle.lab_template.specs.declared.template.Template.{Template}

-- what stands around the data of a page, and around the limits that its scripts name
pub record Around : Type 0 where
  pub start : List ℕ
  pub reading : List ℕ
  pub showing : List ℕ

-- what a template has around them
abbrev pub around : Template → Around
around t =
    record {
      start = flat_map (λ part. part.now) t.start.now;
      reading = flat_map (λ part. part.now) t.reading.now;
      showing = flat_map (λ part. part.now) t.showing.now;
    }

-- a data block that holds JSON, which a browser neither shows nor runs (HTML, 4.12.1)
unfoldable pub data_block : List ℕ → List ℕ
data_block json = codes "<script type=\"application/json\" id=\"data\">\n" ++ json ++ codes "\n</script>"

-- a limit that the scripts name so
unfoldable pub limit : List ℕ → ℕ → List ℕ
limit name n = codes "const " ++ name ++ codes " = " ++ decimal n ++ codes ";"

-- the limits that the scripts name
unfoldable pub limit_script : List ℕ
limit_script =
    limit (codes "MOST_WHOLE") most_whole ++ limit (codes "MOST_ENDS") most_ends
    ++ limit (codes "MOST_END_BYTES") most_end_bytes

-- a byte of JSON that stands in a page: a `<`, which only a string can hold, is escaped (RFC 8259, 7)
unfoldable pub safe_byte : ℕ → List ℕ
safe_byte byte = if byte == 0x3C then codes "\\u003C" else byte ∷ []

-- JSON in which each `<` is escaped
abbrev pub safe : List ℕ → List ℕ
safe json = flat_map safe_byte json

-- the page with these data
abbrev pub page_text : Around → List ℕ → List ℕ
page_text t json = t.start ++ data_block (safe json) ++ t.reading ++ limit_script ++ t.showing

-- a text in which no `<` stands: it ends no element of a page
abbrev pub HasNoTag : List ℕ → Type 0
HasNoTag text = list_any (λ byte. byte == 0x3C) text ≡ false
