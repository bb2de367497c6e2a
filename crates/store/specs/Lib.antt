-- What the calls on the store promise.
pub mod StoreChanges
