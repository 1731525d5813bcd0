-- Few items, as the code keeps them.

use Rattle.std.specs.Prelude.{List}
use Rattle.ltp_engine.specs.declared.few.FewItems.{FewItems}
use Rattle.ltp_engine.specs.declared.few.FewItems.TheVariants as few

abbrev pub items_in : {T : Type 0} → FewItems T → List T
items_in (few.One one alloc) = one
items_in (few.Several items) = items.items
