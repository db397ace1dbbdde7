-- Lists of the same updates, in any order, whatever these have seen that isn't listed.
use Rattle.std.specs.Prelude.{◌≡◌, true, List, [], ◌∷◌, ◌++◌}
use Rattle.site_vector.specs.declared.ids.Dot.{Dot}
use Rattle.crdt_core.specs.Seen.{Update, sees, has_dot}

-- one update: both have seen the same of those that are listed
pub record IsAlike (listed : List Update) (u v : Update) : Type 0 where
  pub dot : u.dot ≡ v.dot
  pub path : u.path ≡ v.path
  pub act : u.act ≡ v.act
  pub stamp : u.stamp ≡ v.stamp
  pub now : u.now ≡ v.now
  pub saw : (d : Dot) → has_dot listed d ≡ true → sees u d ≡ sees v d

abbrev pub AlikeAmong : List Update → List Update → List Update → Type 0
AlikeAmong listed [] vs = vs ≡ []
AlikeAmong listed (u ∷ us) vs = (front : List Update) × (v : Update) × (back : List Update) × (vs ≡ front ++ v ∷ back) × IsAlike listed u v × AlikeAmong listed us (front ++ back)

abbrev pub AreAlike : List Update → List Update → Type 0
AreAlike us vs = AlikeAmong us us vs
