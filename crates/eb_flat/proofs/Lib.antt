pub mod FlatImages
