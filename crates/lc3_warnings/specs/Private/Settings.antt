-- What the code's settings say, in the words of the definitions.
use Rattle.lc3_warnings.specs.Warnings.{Setting}
use Rattle.lc3_warnings.specs.Private.Names.{is_among}
use Rattle.lc3_warnings.specs.declared.walk.Settings.{Settings}

-- the setting, with the labels as what they contain
abbrev pub seen_setting : Settings → Setting
seen_setting s = record { profile = s.profile; accepted = s.accepted; named = is_among s.named; called = is_among s.called; strings = is_among s.strings; mentioned = is_among s.mentioned }
