-- What a session is begun with, by the parameters of its first request.
use Rattle.std.specs.Prelude.{ℕ, Bool, false, if◌then◌else◌, Option, Some, None, is_some, List, [], filter, codes, bytes_eq}
use Rattle.std.specs.List.{list_any, list_all}
use Rattle.std.specs.Option.{option_map, option_and_then}
use Rattle.serde_json.specs.Data.{Data}
use Rattle.serde_json.specs.Find.{get, as_str, as_bool, as_null, as_object, pointer}
use Rattle.lc3_table.specs.declared.profile.Profile.{Profile}
use Rattle.lc3_table.specs.declared.profile.Profile.TheVariants.{A, B}
use Rattle.lab_documents.specs.declared.document.Shows.{Shows}
use Rattle.lab_server.specs.Messages.{is_text}
use Rattle.lab_server.specs.Members.{list_of}

-- the machine, the names of the warnings that are left out, whether hints are asked for, and what the editor can show
pub record Settings : Type 0 where
  pub profile : Profile
  pub allowed : List (List ℕ)
  pub addresses : Bool
  pub shows : Shows

-- those of a session that isn't begun
abbrev pub first_settings : Settings
first_settings = record { profile = A; allowed = []; addresses = false; shows = record { markdown = false; trees = false; snippets = false } }

-- the options of a session: the machine, what names warnings to leave out, and whether hints are asked for
pub record Options : Type 0 where
  pub profile : Profile
  pub left_out : List Data
  pub addresses : Bool

-- the machine that a text names
abbrev pub profile_named : Option (List ℕ) → Option Profile
profile_named None = None
profile_named (Some text) = if bytes_eq text (codes "a") then Some A else (if bytes_eq text (codes "b") then Some B else None)

-- the machine of an option, which may be missing
abbrev pub profile_in : Option Data → Option Profile
profile_in None = Some A
profile_in (Some d) = profile_named (as_str d)

unfoldable pub profile_of : Data → Option Profile
profile_of options = profile_in (get (codes "profile") options)

abbrev pub addresses_in : Option Data → Option Bool
addresses_in None = Some false
addresses_in (Some d) = as_bool d

unfoldable pub addresses_of : Data → Option Bool
addresses_of options = addresses_in (get (codes "addresses") options)

-- whether a text is one of these
abbrev pub is_among : List (List ℕ) → Option (List ℕ) → Bool
is_among names None = false
is_among names (Some text) = list_any (bytes_eq text) names

-- whether a value is one of these names
unfoldable pub is_name : List (List ℕ) → Data → Bool
is_name names d = is_among names (as_str d)

-- values, where each is one of these names
abbrev pub all_names : List (List ℕ) → Option (List Data) → Option (List Data)
all_names names None = None
all_names names (Some ds) = if list_all (is_name names) ds then Some ds else None

abbrev pub left_out_in : List (List ℕ) → Option Data → Option (List Data)
left_out_in names None = Some []
left_out_in names (Some d) = all_names names (list_of d)

-- what names warnings to leave out
unfoldable pub left_out : List (List ℕ) → Data → Option (List Data)
left_out names options = left_out_in names (get (codes "allow") options)

-- whether one of these values is this name
unfoldable pub has_name : List ℕ → List Data → Bool
has_name name ds = list_any (λ d. is_text (Some d) name) ds

-- the names that values leave out
abbrev pub allowed_of : List (List ℕ) → List Data → List (List ℕ)
allowed_of names ds = filter (λ name. has_name name ds) names

-- whether a value is true
abbrev pub is_true : Option Bool → Bool
is_true None = false
is_true (Some b) = b

unfoldable pub flag : List ℕ → Data → Bool
flag path params = is_true (option_and_then as_bool (pointer path params))

-- what an editor can show
unfoldable pub shows_of : Data → Shows
shows_of params = record {
  markdown = is_text (pointer (codes "/capabilities/textDocument/hover/contentFormat/0") params) (codes "markdown");
  trees = flag (codes "/capabilities/textDocument/documentSymbol/hierarchicalDocumentSymbolSupport") params;
  snippets = flag (codes "/capabilities/textDocument/completion/completionItem/snippetSupport") params;
}

-- options of this machine, these values and this wish for hints, where they are there
abbrev pub options_from : Option Profile → Option (List Data) → Option Bool → Option Options
options_from (Some p) (Some ds) (Some b) = Some (record { profile = p; left_out = ds; addresses = b })
options_from p ds b = None

unfoldable pub options_in : List (List ℕ) → Data → Option Options
options_in names options = options_from (profile_of options) (left_out names options) (addresses_of options)

-- options, which may be missing or null
abbrev pub options_at : List (List ℕ) → Option Data → Option Options
options_at names None = Some (record { profile = A; left_out = []; addresses = false })
options_at names (Some d) =
    if is_some (as_object d) then options_in names d else
    (if is_some (as_null d) then Some (record { profile = A; left_out = []; addresses = false }) else None)

unfoldable pub options_of : List (List ℕ) → Data → Option Options
options_of names params = options_at names (get (codes "initializationOptions") params)

-- the settings of these options
abbrev pub set_of : List (List ℕ) → Shows → Options → Settings
set_of names shows o = record { profile = o.profile; allowed = allowed_of names o.left_out; addresses = o.addresses; shows = shows }

-- the settings that a session is begun with
abbrev pub settings_of : List (List ℕ) → Data → Option Settings
settings_of names params = option_map (set_of names (shows_of params)) (options_of names params)
